use Rattle.std.proofs.Common.{◌≡◌, ◌+◌, ◌*◌, ◌≤◌, ◌&&◌}
use Rattle.cron_bits.specs.Words.{has_bit}
use Rattle.cron_counting.specs.Inner.Times.{is_within}
use Rattle.cron_counting.specs.Inner.Totals.{ones, total}
use Rattle.cron_counting.proofs.hour.count_cut.Given as goal

abbrev pub invariant-loop-minute : goal.invariant-loop-minute
invariant-loop-minute l =
    (l.count ≡ total (λ m. ones (is_within l.span (m * 60 + l.start) && has_bit l.minutes m)) l.minute) × (l.count ≤ l.minute)
