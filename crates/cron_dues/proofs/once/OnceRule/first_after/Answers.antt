use Rattle.cron_dues.proofs.RuleLemmas.{first-after}
use Rattle.cron_dues.proofs.once.OnceRule.first_after.Goals as goal

pub returns : goal.returns
returns g c = first-after (g.S.CivilSeconds.has c.args.set.now) (g.C.Clock.offsets c.args.clock.now) c.args.now.nanosecond c.first_after.result c.first_after.ensures
