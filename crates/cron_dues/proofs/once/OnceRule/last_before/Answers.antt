use Rattle.cron_dues.proofs.RuleLemmas.{last-before}
use Rattle.cron_dues.proofs.once.OnceRule.last_before.Goals as goal

pub returns : goal.returns
returns g c = last-before (g.S.CivilSeconds.has c.args.set.now) (g.C.Clock.offsets c.args.clock.now) c.args.fire.now c.last_before.result c.last_before.ensures
