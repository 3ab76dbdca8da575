use Rattle.cron_dues.specs.Reached.{IsOnTheWay, left_until}
use Rattle.cron_dues.proofs.way_to.span_from.Given as goal

abbrev pub invariant-loop-from : goal.invariant-loop-from
invariant-loop-from g l = IsOnTheWay (g.C.Clock.offsets l.clock) l.second l.from l.steady

abbrev pub decreases-loop-from : goal.decreases-loop-from
decreases-loop-from g l = left_until l.second l.from
