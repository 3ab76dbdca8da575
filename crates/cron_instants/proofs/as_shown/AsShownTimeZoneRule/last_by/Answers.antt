use Rattle.jiff.specs.Words.{plain_zone}
use Rattle.cron_instants.proofs.FireLemmas.{last-by}
use Rattle.cron_instants.proofs.as_shown.AsShownTimeZoneRule.last_by.Goals as goal

pub returns : goal.returns
returns g c = last-by (g.S.CivilSeconds.has c.args.set.now) (plain_zone c.args.clock.now) c.args.now.nanosecond c.last_by.result c.last_by.ensures
