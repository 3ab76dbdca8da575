use Rattle.std.proofs.Common.{◌≡◌, ◌+◌}
use Rattle.std.specs.Prelude.{map, min, slice_index}
use Rattle.std.specs.List.{range_with_len}
use Rattle.cron_calendar.proofs.plans.sums_with.Given as goal

abbrev pub invariant-loop-place : goal.invariant-loop-place
invariant-loop-place l =
    l.sums.items ≡ map (λ i. min (slice_index l.counts i + slice_index l.others i) 4_294_967_295) (range_with_len 0 l.place)
