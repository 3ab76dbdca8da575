use Rattle.std.proofs.Common.{◌≡◌, ◌+◌, ◌*◌, ◌++◌}
use Rattle.cron_calendar.specs.Cells.{day_cell}
use Rattle.cron_calendar.specs.Grids.{day_at, from_to}
use Rattle.cron_calendar.proofs.lines.push_days.Given as goal

abbrev pub invariant-loop-column : goal.invariant-loop-column
invariant-loop-column l = l.page.items ≡ l.fn.page.items ++ from_to (λ column. day_cell (day_at l.month (l.week * 7 + column))) 0 l.column
