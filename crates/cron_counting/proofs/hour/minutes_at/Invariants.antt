use Rattle.std.proofs.Common.{◌≡◌, ℕ, ◌<◌, ◌^◌, take}
use Rattle.std.specs.List.{list_any}
use Rattle.cron_bits.specs.Words.{has_bit}
use Rattle.cron_counting.specs.Inner.Times.{has_minute}
use Rattle.cron_counting.proofs.hour.minutes_at.Given as goal

abbrev pub invariant-loop-part : goal.invariant-loop-part
invariant-loop-part l =
    (l.minutes < 2 ^ 64) × ((m : ℕ) → has_bit l.minutes m ≡ list_any (has_minute l.hour m l.second) (take l.part-index l.times))
