use Rattle.std.proofs.Common.{◌≡◌, ◌+◌, ◌++◌}
use Rattle.std.specs.Prelude.{slice_index}
use Rattle.cron_calendar.specs.Grids.{from_to}
use Rattle.cron_calendar.specs.Json.{day_object}
use Rattle.cron_calendar.proofs.json.push_objects.Given as goal

abbrev pub invariant-loop-place : goal.invariant-loop-place
invariant-loop-place l =
    l.text.items ≡ l.fn.text.items ++ from_to (λ place. day_object (l.first + place) (slice_index l.counts place)) 0 l.place
