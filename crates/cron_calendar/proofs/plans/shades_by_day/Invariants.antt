use Rattle.std.proofs.Common.{◌≡◌}
use Rattle.std.specs.Prelude.{map}
use Rattle.std.specs.List.{range_with_len}
use Rattle.cron_calendar.specs.Plans.{shade_at}
use Rattle.cron_calendar.proofs.plans.shades_by_day.Given as goal

abbrev pub invariant-loop-place : goal.invariant-loop-place
invariant-loop-place l =
    l.shades.items ≡ map (shade_at (map (λ counts. counts.items) l.each)) (range_with_len 0 l.place)
