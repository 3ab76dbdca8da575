use Rattle.std.proofs.Common.{◌≡◌, ◌++◌}
use Rattle.cron_calendar.specs.Grids.{from_to, line_text}
use Rattle.cron_calendar.proofs.grid.push_row.Given as goal

abbrev pub invariant-loop-line : goal.invariant-loop-line
invariant-loop-line l = l.page.items ≡ l.fn.page.items ++ from_to (line_text l.months l.row.first l.row.end) 0 l.line
