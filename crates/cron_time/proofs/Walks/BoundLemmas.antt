-- The bounds of a start.
use Rattle.std.proofs.Common.{◌≡◌, ℤ, ◌+ℤ◌, pos, true, Some, arith, refl}
use Rattle.std.proofs.lemmas.Int.{ints}
use Rattle.std.specs.Int.{int_div_euclid}
use Rattle.jiff_core.specs.Timestamp.{IsTimestampNanos, nanos_of_seconds}
use Rattle.jiff_core.proofs.SignedLemmas.{signed_arith}
use Rattle.jiff_tz.specs.declared.timezone.TimeZone.{TimeZone}
use Rattle.cron_time.specs.Walk.Bounds.{is_instant, shown_at, shown_if_any}

pub shown_if_any-some : (z : TimeZone) (t : ℤ) → IsTimestampNanos t → shown_if_any z t ≡ Some (shown_at z t)
shown_if_any-some z t h =
    let yes : is_instant t ≡ true = grind (arith, ints) in rw yes refl

-- an offset moves the second that is shown by its seconds
pub moved_second : (t o : ℤ) → int_div_euclid t (pos 1_000_000_000) +ℤ o ≡ int_div_euclid (t +ℤ nanos_of_seconds o) (pos 1_000_000_000)
moved_second t o = omega (arith, signed_arith)
