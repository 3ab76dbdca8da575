use Rattle.std.proofs.Common.{rules, ◌≡◌, pos, ◌+ℤ◌, ap, FitsSigned, w64, to_z-of_z}
use Rattle.cron_dues.proofs.StandLemmas.{left-past}
use Rattle.cron_dues.proofs.once.OnceRule.stand_past.Goals as goal

pub returns-clause-left : goal.returns-clause-left
returns-clause-left g c =
    let second : c.from.result ≡ pos c.args.fire.now.second = rw c.nominal_second.ensures at c.from.ensures in
    let fits : FitsSigned w64 c.from.result = search rules in
    let fits-next : FitsSigned w64 (c.from.result +ℤ pos 1) = search rules in
    λ s. rw (to_z-of_z fits, to_z-of_z fits-next)
    (left-past s (g.C.Clock.offsets c.args._clock.now) (c.from.result +ℤ pos 1) c.args.fire.now (ap (λ k. k +ℤ pos 1) second))
