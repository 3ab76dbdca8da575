use Rattle.std.proofs.Common.{pos, Some}
use Rattle.jiff.specs.Words.{plain_zone}
use Rattle.cron_moments.specs.Civil.{days_in_range}
use Rattle.cron_clocks.specs.Steady.{IsKnown}
use Rattle.cron_time.specs.Search.{stands}
use Rattle.cron_time.specs.Search.Inner.Blocks.{Reaches, left_to_reach}
use Rattle.cron_time.specs.Search.Inner.MonthDays.{KnowsDays, matching_day}
use Rattle.cron_time.specs.Search.Inner.Numbers.{beyond_day}
use Rattle.cron_time.proofs.Searches.BlockLemmas.{BlockFails}
use Rattle.cron_time.proofs.search.onward.days_past.Given as goal

abbrev pub invariant-loop-next : goal.invariant-loop-next
invariant-loop-next g l = record {
  days : KnowsDays l.fields l.days;
  known : IsKnown (plain_zone l.zone) l.stretch;
  reached : Reaches l.way 86_400 (matching_day l.fields) (stands l.fields (plain_zone l.zone)) (beyond_day l.way l.own)
      (pos l.own) l.day;
  fails : BlockFails l.way 86_400 (stands l.fields (plain_zone l.zone)) (beyond_day l.way l.own) l.day;
}

abbrev pub decreases-loop-next : goal.decreases-loop-next
decreases-loop-next g l = left_to_reach l.way days_in_range (Some l.day)
