use Rattle.std.proofs.Common.{pos, refl}
use Rattle.cron_dues.proofs.StandLemmas.{left-end}
use Rattle.cron_dues.proofs.once.OnceRule.stand_at_the_end.Goals as goal

pub returns-clause-left : goal.returns-clause-left
returns-clause-left g c = λ s. left-end s (g.C.Clock.offsets c.args._clock.now) (pos 4_133_980_800) refl
