use Rattle.std.proofs.Common.{◌≡◌, ◌++◌}
use Rattle.cron_calendar.specs.Grids.{from_to, month_line}
use Rattle.cron_calendar.proofs.grid.push_line.Given as goal

abbrev pub invariant-loop-month : goal.invariant-loop-month
invariant-loop-month l = l.page.items ≡ l.fn.page.items ++ from_to (λ month. month_line l.months month l.line) l.fn.row.first l.month
