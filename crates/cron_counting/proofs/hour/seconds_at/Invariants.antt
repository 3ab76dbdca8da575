use Rattle.std.proofs.Common.{◌≡◌, ℕ, ◌<◌, ◌^◌, take}
use Rattle.std.specs.List.{list_any}
use Rattle.cron_bits.specs.Words.{has_bit}
use Rattle.cron_counting.specs.Inner.Times.{has_second}
use Rattle.cron_counting.proofs.hour.seconds_at.Given as goal

abbrev pub invariant-loop-part : goal.invariant-loop-part
invariant-loop-part l =
    (l.seconds < 2 ^ 64) × ((s : ℕ) → has_bit l.seconds s ≡ list_any (has_second l.hour s) (take l.part-index l.times))
