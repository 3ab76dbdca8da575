use Rattle.std.proofs.Common.{◌≡◌, ◌*◌, ◌≤◌}
use Rattle.cron_counting.specs.Inner.Times.{fits_in}
use Rattle.cron_counting.specs.Inner.Totals.{ones, total}
use Rattle.cron_counting.proofs.day.count_hours.Given as goal

abbrev pub invariant-loop-hour : goal.invariant-loop-hour
invariant-loop-hour l = (l.count ≡ total (λ t. ones (fits_in l.times l.span t)) (l.hour * 3600)) × (l.count ≤ l.hour * 3600)
