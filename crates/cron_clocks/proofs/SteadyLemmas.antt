-- Stretches of civil seconds that a zone reads at the same offsets, from what `jiff` tells of one of them.
use Rattle.std.proofs.Common.{◌≡◌, ℕ, ◌<◌, ◌≤◌, ℤ, pos, ◌≤ℤ◌, ◌<ℤ◌, Option, [], ◌∷◌, ◌⊎◌, inl, inr, refl, sym, ap, ◌∙◌, arith}
use Rattle.std.specs.Borrow.{Bor}
use Rattle.jiff_core.proofs.SignedLemmas.{signed_arith}
use Rattle.jiff_core.specs.declared.Offset.{Offset}
use Rattle.jiff_tz.specs.declared.posix.TimeZone.{TimeZone as Rule}
use Rattle.jiff_tz.specs.declared.timezone.TimeZone.{TimeZone}
use Rattle.jiff_tz.specs.declared.timezone.TimeZone.TheVariants.{UTC, Unknown, Fixed, Posix, Tzif}
use Rattle.jiff_tz.specs.declared.tzif.Tzif.{Tzif as Table}
use Rattle.jiff_tz.specs.PosixRule.{ambiguous_at as rule_tells}
use Rattle.jiff_tz.specs.Tzif.{ambiguous_at as table_tells}
use Rattle.jiff_tz.specs.Zone.{ambiguous_at, utc_offset}
use Rattle.cron_moments.specs.Civil.{civil, seconds_in_range}
use Rattle.cron_moments.specs.Readings.{reading, readings, readings_by}
use Rattle.cron_clocks.specs.Spans.{IsNarrowed, IsToldAlike}
use Rattle.cron_clocks.specs.Steady.{IsSteady, IsToldBy, whole_range}
use Rattle.cron_clocks.specs.Tables.{IsToldAlikeIn}
use Rattle.cron_clocks.specs.declared.stretch.Stretch.{Stretch}

pub steady_alike : (z : TimeZone) (c first end : ℕ) (a b : Option Offset) → first ≤ c → c < end → end ≤ seconds_in_range
    → IsToldBy (ambiguous_at z (civil c)) a b → ((k : ℕ) → first ≤ k → k < end → ambiguous_at z (civil k) ≡ ambiguous_at z (civil c))
    → IsSteady z (record { first = first; end = end; earlier = a; later = b })
unfolding readings
steady_alike z c first end a b low high in_range told alike = record {
  some = omega arith;
  high = in_range;
  same = λ k from to. ap (readings_by k) (alike k from to) ∙ sym (told k);
}

-- around a civil second with it the zone tells the same of each
steady_between : (z : TimeZone) (c first end : ℕ) (from to : ℤ) (a b : Option Offset) → from ≡ pos first → to ≡ pos end
    → from ≤ℤ pos c → pos c <ℤ to → IsNarrowed (pos 0) (pos seconds_in_range) from to
    → ((k : ℕ) → from ≤ℤ pos k → pos k <ℤ to → ambiguous_at z (civil k) ≡ ambiguous_at z (civil c)) → IsToldBy (ambiguous_at z (civil c)) a b
    → IsSteady z (record { first = first; end = end; earlier = a; later = b })
steady_between z c first end from to a b e f low high (start, last) alike told =
    steady_alike z c first end a b (omega (arith, signed_arith)) (omega (arith, signed_arith)) (omega (arith, signed_arith)) told
    (λ k above below. alike k (omega (arith, signed_arith)) (omega (arith, signed_arith)))

-- what a rule tells its zone does
pub steady_rule : (rule : Rule) (c first end : ℕ) (from to : ℤ) (a b : Option Offset) → from ≡ pos first → to ≡ pos end
    → from ≤ℤ pos c → pos c <ℤ to → IsNarrowed (pos 0) (pos seconds_in_range) from to → IsToldAlike rule c from to → IsToldBy (rule_tells rule (civil c)) a b
    → IsSteady (Posix rule) (record { first = first; end = end; earlier = a; later = b })
unfolding ambiguous_at
steady_rule rule c first end from to a b e f low high range alike told = steady_between (Posix rule) c first end from to a b e f low high range alike told

-- and what a table does
pub steady_table : (table : Bor Table) (c first end : ℕ) (from to : ℤ) (a b : Option Offset) → from ≡ pos first → to ≡ pos end
    → from ≤ℤ pos c → pos c <ℤ to → IsNarrowed (pos 0) (pos seconds_in_range) from to → IsToldAlikeIn table.now c from to
    → IsToldBy (table_tells table.now (civil c)) a b
    → IsSteady (Tzif table) (record { first = first; end = end; earlier = a; later = b })
unfolding ambiguous_at
steady_table table c first end from to a b e f low high range alike told = steady_between (Tzif table) c first end from to a b e f low high range alike told

steady_whole : (z : TimeZone) (o : Offset) → ((k : ℕ) → readings z k ≡ reading k o ∷ []) → IsSteady z (whole_range o)
steady_whole z o e = record { some = omega arith; high = omega arith; same = λ k from to. e k }

utc_reading : (k : ℕ) → readings UTC k ≡ reading k utc_offset ∷ []
unfolding readings ambiguous_at
utc_reading k = refl

unknown_reading : (k : ℕ) → readings Unknown k ≡ reading k utc_offset ∷ []
unfolding readings ambiguous_at
unknown_reading k = refl

fixed_reading : (o : Offset) (k : ℕ) → readings (Fixed o) k ≡ reading k o ∷ []
unfolding readings ambiguous_at
fixed_reading o k = refl

pub steady_utc : (plain z : TimeZone) (st : Stretch) → plain ≡ z → (plain ≡ UTC) ⊎ (plain ≡ Unknown) → st ≡ whole_range utc_offset → IsSteady z st
steady_utc plain z st e (inl is) same = rw (same, sym e ∙ is) (steady_whole UTC utc_offset utc_reading)
steady_utc plain z st e (inr is) same = rw (same, sym e ∙ is) (steady_whole Unknown utc_offset unknown_reading)

pub steady_fixed : (plain z : TimeZone) (o : Offset) (st : Stretch) → plain ≡ z → plain ≡ Fixed o → st ≡ whole_range o → IsSteady z st
steady_fixed plain z o st e is same = rw (same, sym e ∙ is) (steady_whole (Fixed o) o (fixed_reading o))
