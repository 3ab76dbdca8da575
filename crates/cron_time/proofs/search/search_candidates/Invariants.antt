use Rattle.std.proofs.Common.{◌≡◌, ◌/◌, true, pos, IfSome, option_map}
use Rattle.cron_moments.specs.Civil.{days_in_range}
use Rattle.cron_time.specs.Search.Inner.Blocks.{ReachesIfAny, left_to_reach}
use Rattle.cron_time.specs.Search.Inner.DaySearch.{candidate_day, IsAskedBefore}
use Rattle.cron_time.specs.Search.Inner.Days.{number_of, day_rank, IsInRange}
use Rattle.cron_time.specs.Search.Inner.Inquired.{IsSame}
use Rattle.cron_time.specs.Search.Inner.Numbers.{matches_rank}
use Rattle.cron_time.specs.Search.{stands}
use Rattle.cron_time.specs.Search.Inner.Tally.{Adds, IsPassedBefore}
use Rattle.cron_time.proofs.search.search_candidates.Given as goal

abbrev pub invariant-loop-next : goal.invariant-loop-next
invariant-loop-next g l = record {
  same : IsSame l.fn.inquiry l.inquiry;
  reached : ReachesIfAny l.way 86_400 (candidate_day l.fn.inquiry.sets) (stands l.fn.inquiry.sets l.fn.inquiry.zone) (pos l.start)
      (pos (l.start / 86_400)) (option_map number_of l.next);
  range : IfSome l.next (λ d. IsInRange d × (matches_rank l.fn.inquiry.sets (day_rank d) ≡ true));
  days : Adds days_in_range (IsPassedBefore l.way (candidate_day l.fn.inquiry.sets) (pos (l.start / 86_400)) (option_map number_of l.next)) l.fn.inquiry.days
      l.inquiry.days;
  conversions : Adds 4_133_980_800 (IsAskedBefore l.way l.fn.inquiry.sets (pos l.start) (option_map number_of l.next)) l.fn.inquiry.conversions
      l.inquiry.conversions;
}

abbrev pub decreases-loop-next : goal.decreases-loop-next
decreases-loop-next g l = left_to_reach l.way days_in_range (option_map number_of l.next)
