use Rattle.std.proofs.Common.{◌≡◌, length, take}
use Rattle.std.specs.Prelude.{filter, map, min}
use Rattle.cron_calendar.specs.Plans.{shades_day}
use Rattle.cron_calendar.proofs.plans.shade_at.Given as goal

abbrev pub invariant-loop-counts : goal.invariant-loop-counts
invariant-loop-counts l =
    l.shade ≡ min (length (filter (shades_day l.place) (map (λ counts. counts.items) (take l.counts-index l.each)))) 4_294_967_295
