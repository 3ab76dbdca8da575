use Rattle.std.proofs.Common.{◌<◌, ◌≤◌, IfSome}
use Rattle.cron_moments.specs.Calendar.{first_month, months_end}
use Rattle.cron_time.specs.Search.Inner.Blocks.{ReachesIfAny, left_to_reach}
use Rattle.cron_time.specs.Search.Inner.MonthDays.{KnowsDays, matches_ranked}
use Rattle.cron_time.specs.Search.Inner.Numbers.{beyond, beyond_block, matches_month}
use Rattle.cron_time.proofs.search.month_days.MonthDays.months_past.Given as goal

abbrev pub invariant-loop-next : goal.invariant-loop-next
invariant-loop-next l = record {
  known : KnowsDays l.fields l.self;
  reached : ReachesIfAny l.way 100 (matches_month l.fields) (matches_ranked l.fields) (beyond_block l.way 100 l.month) (beyond l.way l.month) l.next;
  bound : IfSome l.next (λ n. (first_month ≤ n) × (n < months_end));
}

abbrev pub decreases-loop-next : goal.decreases-loop-next
decreases-loop-next l = left_to_reach l.way months_end l.next
