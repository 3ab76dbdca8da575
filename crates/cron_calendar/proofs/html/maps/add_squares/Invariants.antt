use Rattle.std.proofs.Common.{◌≡◌, ◌+◌, ◌++◌}
use Rattle.std.specs.Prelude.{map, slice_index}
use Rattle.std.specs.List.{range_with_len}
use Rattle.cron_calendar.specs.Shapes.{most_of, square_at}
use Rattle.cron_calendar.proofs.html.maps.add_squares.Given as goal

abbrev pub invariant-loop-place : goal.invariant-loop-place
invariant-loop-place l =
    l.shapes.items ≡ l.fn.shapes.items ++ map (λ place. square_at (l.lead + place) (slice_index l.shades place) (most_of l.shades)) (range_with_len 0 l.place)
