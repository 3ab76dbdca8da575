use Rattle.std.proofs.Common.{◌≡◌, ℕ, ◌&&◌, take}
use Rattle.std.specs.List.{list_any}
use Rattle.cron_time.specs.Matches.{matches_date}
use Rattle.cron_counting.specs.Inner.Times.{fits_any, has_time}
use Rattle.cron_counting.proofs.times.gather.Given as goal

abbrev pub invariant-loop-fields : goal.invariant-loop-fields
invariant-loop-fields l =
    (t : ℕ) → fits_any l.times.items t ≡ list_any (λ s. matches_date s l.date && has_time s t) (take l.fields-index l.schedules)
