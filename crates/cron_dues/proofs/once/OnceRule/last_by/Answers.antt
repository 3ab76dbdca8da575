use Rattle.cron_dues.proofs.RuleLemmas.{last-by}
use Rattle.cron_dues.proofs.once.OnceRule.last_by.Goals as goal

pub returns : goal.returns
returns g c = last-by (g.S.CivilSeconds.has c.args.set.now) (g.C.Clock.offsets c.args.clock.now) c.args.now.nanosecond c.last_by.result c.last_by.ensures
