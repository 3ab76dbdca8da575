use Rattle.std.proofs.Common.{◌≡◌, ◌+◌, ◌++◌}
use Rattle.std.specs.Prelude.{slice_index}
use Rattle.cron_calendar.specs.Grids.{from_to}
use Rattle.cron_calendar.specs.Html.{day_row}
use Rattle.cron_calendar.proofs.html.tables.push_rows.Given as goal

abbrev pub invariant-loop-place : goal.invariant-loop-place
invariant-loop-place l =
    l.page.items ≡ l.fn.page.items ++ from_to (λ place. day_row (l.first + place) (slice_index l.counts place)) 0 l.place
