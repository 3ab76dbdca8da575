use Rattle.jiff.specs.Words.{plain_zone}
use Rattle.cron_instants.proofs.FireLemmas.{first-after}
use Rattle.cron_instants.proofs.as_shown.AsShownTimeZoneRule.first_after.Goals as goal

pub returns : goal.returns
returns g c = first-after (g.S.CivilSeconds.has c.args.set.now) (plain_zone c.args.clock.now) c.args.now.nanosecond c.first_after.result c.first_after.ensures
