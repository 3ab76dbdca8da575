use Rattle.std.proofs.Common.{◌≡◌, ◌+◌, ◌*◌, ◌≤◌}
use Rattle.cron_counting.specs.Inner.Times.{fits_in}
use Rattle.cron_counting.specs.Inner.Totals.{ones, total}
use Rattle.cron_counting.proofs.hour.count_hour.Given as goal

abbrev pub invariant-loop-second : goal.invariant-loop-second
invariant-loop-second l =
    (l.count ≡ total (λ s. total (λ m. ones (fits_in l.times l.span (l.hour * 3600 + (m * 60 + s)))) 60) l.second) × (l.count ≤ l.second * 60)
