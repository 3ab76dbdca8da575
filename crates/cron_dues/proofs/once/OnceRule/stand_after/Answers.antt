use Rattle.std.proofs.Common.{rules, pos, ◌+ℤ◌, FitsSigned, w64, to_z-of_z}
use Rattle.cron_dues.proofs.StandLemmas.{left-after}
use Rattle.cron_dues.proofs.once.OnceRule.stand_after.Goals as goal

pub returns-clause-left : goal.returns-clause-left
returns-clause-left g c =
    let fits : FitsSigned w64 c.reached_by.result = search rules in
    let fits-next : FitsSigned w64 (c.reached_by.result +ℤ pos 1) = search rules in
    λ s. rw (to_z-of_z fits, to_z-of_z fits-next)
    (left-after s (g.C.Clock.offsets c.args.clock.now) c.args.start.nanosecond c.reached_by.result c.reached_by.ensures.reached)
