use Rattle.std.proofs.Common.{◌≡◌, ◌+◌, ◌*◌, ◌++◌}
use Rattle.cron_calendar.specs.Cells.{count_cell}
use Rattle.cron_calendar.specs.Grids.{count_at, from_to}
use Rattle.cron_calendar.proofs.lines.push_counts.Given as goal

abbrev pub invariant-loop-column : goal.invariant-loop-column
invariant-loop-column l = l.page.items ≡ l.fn.page.items ++ from_to (λ column. count_cell l.months.colour (count_at l.months l.month (l.week * 7 + column))) 0 l.column
