use Rattle.jiff.specs.Words.{plain_zone}
use Rattle.cron_instants.proofs.FireLemmas.{first-past}
use Rattle.cron_instants.proofs.as_shown.AsShownTimeZoneRule.first_past.Goals as goal

pub returns : goal.returns
returns g c = first-past (g.S.CivilSeconds.has c.args.set.now) (plain_zone c.args.clock.now) c.args.fire.now c.first_past.result c.first_past.ensures
