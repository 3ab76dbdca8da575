-- How long a clock keeps its offset, in whole seconds.
use Rattle.std.proofs.Common.{◌≡◌, ℤ, pos, neg_ℤ, ◌≤ℤ◌, ◌<ℤ◌, Option, Some, None, sym, ◌∙◌, arith}
use Rattle.std.specs.Prelude.{option_map}
use Rattle.std.specs.Int.{int_div_euclid}
use Rattle.std.proofs.lemmas.Int.{by_lt_z}
use Rattle.jiff_core.proofs.SignedLemmas.{signed_arith}
use Rattle.jiff_core.specs.Calendar.{IsBetween}
use Rattle.jiff_core.specs.Timestamp.{nanos_of_seconds}
use Rattle.jiff_tz.specs.declared.info.OffsetInfo.{OffsetInfo}
use Rattle.jiff_tz.specs.declared.info.Transition.{Transition}
use Rattle.jiff_tz.specs.PosixRule.{transition_view}
use Rattle.jiff_tz.specs.declared.timezone.TimeZone.{TimeZone}
use Rattle.jiff_tz.specs.Zone.{next_at, offset_at}
use Rattle.cron_dues.specs.Clock.Due.{clock_of}
use Rattle.cron_dues.specs.Steady.{IsKept, IsOneYear, IsShortOf}
use Rattle.cron_dues.proofs.ZoneLemmas.{zone_kept}

-- before the whole second of the next transition
pub short_of : (next : Option (ℤ × OffsetInfo)) (t : Transition) (n k whole : ℤ) → option_map transition_view (Some t) ≡ next
    → whole ≡ int_div_euclid t.timestamp.nanosecond (pos 1_000_000_000) → k <ℤ whole → IsShortOf next (nanos_of_seconds k)
short_of next t n k whole e is less = rw (← e) (omega (arith, signed_arith))

pub short_of_none : (next : Option (ℤ × OffsetInfo)) (k : ℤ) → option_map transition_view None ≡ next → IsShortOf next (nanos_of_seconds k)
short_of_none next k e = rw (← e) tt

pub kept : (z : TimeZone) (n first_end second_end end o : ℤ) → IsBetween (neg_ℤ (pos 1_000_000)) (pos 8_000_000_000) n
    → o ≡ offset_at z (nanos_of_seconds n)
    → ((k : ℤ) → n <ℤ k → k <ℤ first_end → IsShortOf (next_at z (nanos_of_seconds n)) (nanos_of_seconds k))
    → IsOneYear n second_end → first_end ≤ℤ pos 8_267_961_600 → end ≤ℤ first_end → end ≤ℤ second_end → IsKept (clock_of z) n end o
kept z n first_end second_end end o bound is untouched year last one other k low high =
    by_lt_z n k
    (λ more. zone_kept z (nanos_of_seconds n) (nanos_of_seconds k) (omega (arith, signed_arith)) (omega (arith, signed_arith, bound)) (omega (arith, signed_arith))
    (year k low (omega (arith, signed_arith))) (untouched k more (omega (arith, signed_arith)))
    ∙ sym is)
    (λ same. let e : k ≡ n = omega (arith, signed_arith) in rw e (sym is))
