use Rattle.std.proofs.Common.{◌≡◌, ◌<◌, ◌≤◌, pos, IfSome}
use Rattle.cron_time.specs.Search.Inner.Blocks.{ReachesIfAny, left_to_reach}
use Rattle.cron_time.specs.Search.Inner.Inquired.{IsSame}
use Rattle.cron_time.specs.Search.Inner.Numbers.{matches_second, stands_at}
use Rattle.cron_time.specs.Search.Inner.Tally.{Adds, IsPassedBefore}
use Rattle.cron_time.proofs.search.search_times.Given as goal

abbrev pub invariant-loop-next : goal.invariant-loop-next
invariant-loop-next l = record {
  same : IsSame l.fn.inquiry l.inquiry;
  days : l.inquiry.days ≡ l.fn.inquiry.days;
  reached : ReachesIfAny l.way 1 (matches_second l.fn.inquiry.sets) (stands_at l.fn.inquiry.sets l.fn.inquiry.zone l.day) (pos l.from) (pos l.from) l.next;
  bound : IfSome l.next (λ n. (0 ≤ n) × (n < 86_400));
  conversions : Adds 86_400 (IsPassedBefore l.way (matches_second l.fn.inquiry.sets) (pos l.from) l.next) l.fn.inquiry.conversions l.inquiry.conversions;
}

abbrev pub decreases-loop-next : goal.decreases-loop-next
decreases-loop-next l = left_to_reach l.way 86_400 l.next
