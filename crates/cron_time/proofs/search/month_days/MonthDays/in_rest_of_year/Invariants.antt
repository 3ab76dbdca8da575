use Rattle.cron_time.specs.Search.Inner.Blocks.{left_to_reach}
use Rattle.cron_time.proofs.Searches.RowLemmas.{ComesToPlace}
use Rattle.cron_time.proofs.search.month_days.MonthDays.in_rest_of_year.Given as goal

abbrev pub invariant-loop-next : goal.invariant-loop-next
invariant-loop-next l = ComesToPlace l.way l.fields l.from l.next

abbrev pub decreases-loop-next : goal.decreases-loop-next
decreases-loop-next l = left_to_reach l.way 12 l.next
