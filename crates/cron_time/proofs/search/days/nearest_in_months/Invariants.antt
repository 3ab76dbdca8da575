use Rattle.std.proofs.Common.{◌<◌, ◌≤◌, pos, IfSome}
use Rattle.cron_time.specs.Search.Inner.Blocks.{ReachesIfAny, left_to_reach}
use Rattle.cron_time.specs.Search.Inner.Days.{day_rank}
use Rattle.cron_time.specs.Search.Inner.Numbers.{matches_month, matches_rank}
use Rattle.cron_moments.specs.Calendar.{first_month, months_end}
use Rattle.cron_time.proofs.search.days.nearest_in_months.Given as goal

abbrev pub invariant-loop-next : goal.invariant-loop-next
invariant-loop-next l = record {
  reached : ReachesIfAny l.way 100 (matches_month l.members) (matches_rank l.members) (pos (day_rank l.from)) (pos l.from.month) l.next;
  bound : IfSome l.next (λ n. (first_month ≤ n) × (n < months_end));
}

abbrev pub decreases-loop-next : goal.decreases-loop-next
decreases-loop-next l = left_to_reach l.way months_end l.next
