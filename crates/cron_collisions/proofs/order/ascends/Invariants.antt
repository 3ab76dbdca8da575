use Rattle.std.proofs.Common.{◌<◌, ◌+◌, ℕ, pos, ◌≤ℤ◌, get_or}
use Rattle.cron_collisions.proofs.order.ascends.Given as goal

-- none of those so far is less than the one in front of it
abbrev pub invariant-loop-place : goal.invariant-loop-place
invariant-loop-place l = (k : ℕ) → k + 1 < l.place → get_or l.seconds k (pos 0) ≤ℤ get_or l.seconds (k + 1) (pos 0)
