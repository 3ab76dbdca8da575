use Rattle.std.proofs.Common.{◌≡◌, ◌+◌, ◌*◌, ◌++◌}
use Rattle.jiff.specs.Words.{plain_zone}
use Rattle.cron_calendar.specs.Grids.{day_at, from_to}
use Rattle.cron_calendar.specs.Pages.{month_cell}
use Rattle.cron_calendar.proofs.html.month.push_cells.Given as goal

abbrev pub invariant-loop-column : goal.invariant-loop-column
invariant-loop-column l =
    l.page.items ≡ l.fn.page.items
    ++ from_to (λ column. month_cell (plain_zone l.zone) l.plans l.month (day_at l.month (l.week * 7 + column))) 0 l.column
