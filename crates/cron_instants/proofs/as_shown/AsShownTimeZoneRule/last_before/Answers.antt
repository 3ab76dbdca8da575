use Rattle.jiff.specs.Words.{plain_zone}
use Rattle.cron_instants.proofs.FireLemmas.{last-before}
use Rattle.cron_instants.proofs.as_shown.AsShownTimeZoneRule.last_before.Goals as goal

pub returns : goal.returns
returns g c = last-before (g.S.CivilSeconds.has c.args.set.now) (plain_zone c.args.clock.now) c.args.fire.now c.last_before.result c.last_before.ensures
