use Rattle.cron_dues.proofs.RuleLemmas.{first-past}
use Rattle.cron_dues.proofs.once.OnceRule.first_past.Goals as goal

pub returns : goal.returns
returns g c = first-past (g.S.CivilSeconds.has c.args.set.now) (g.C.Clock.offsets c.args.clock.now) c.args.fire.now c.first_past.result c.first_past.ensures
