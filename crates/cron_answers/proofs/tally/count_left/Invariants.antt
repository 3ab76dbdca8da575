-- the fires so far were counted, with their waits
use Rattle.std.proofs.Common.{length, map}
use Rattle.cron_answers.proofs.TallyLemmas.{IsSoFar}
use Rattle.cron_answers.proofs.tally.count_left.Given as goal

abbrev pub invariant-fires : goal.invariant-fires
invariant-fires g l = IsSoFar (map g.F.Told.second (g.L.Left.left l.initial.left)) l.tally l.last (map g.F.Told.second (g.L.Left.left l.left))

abbrev pub decreases-fires : goal.decreases-fires
decreases-fires g l = length (g.L.Left.left l.left)
