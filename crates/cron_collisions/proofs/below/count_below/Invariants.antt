use Rattle.std.proofs.Common.{◌≤◌, ◌-◌, length}
use Rattle.cron_collisions.specs.Inner.Below.{below}
use Rattle.cron_collisions.proofs.below.count_below.Given as goal

abbrev pub invariant-loop-count : goal.invariant-loop-count
invariant-loop-count l = l.count ≤ below l.bound l.numbers

abbrev pub decreases-loop-count : goal.decreases-loop-count
decreases-loop-count l = length l.numbers - l.count
