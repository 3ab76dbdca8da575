use Rattle.cron_dues.specs.Reached.{IsGathered, left_to}
use Rattle.cron_dues.proofs.reach.greatest_by.Given as goal

abbrev pub invariant-loop-steady : goal.invariant-loop-steady
invariant-loop-steady g l = IsGathered (g.C.Clock.offsets l.clock) l.second l.from l.greatest l.steady

abbrev pub decreases-loop-steady : goal.decreases-loop-steady
decreases-loop-steady g l = left_to l.second l.from
