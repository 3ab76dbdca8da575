use Rattle.std.proofs.Common.{◌≡◌, ◌++◌, []}
use Rattle.cron_calendar.specs.Grids.{from_to, row_from}
use Rattle.cron_calendar.proofs.grid.grid.Given as goal

abbrev pub invariant-loop-month : goal.invariant-loop-month
invariant-loop-month l = l.page.items ≡ [] ++ from_to (row_from l.months l.first l.end l.across) l.first l.month
