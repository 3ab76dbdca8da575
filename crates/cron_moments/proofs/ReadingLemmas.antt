-- The readings of a civil second, from what jiff says of it.
use Rattle.std.proofs.Common.{◌≡◌, ℕ, ap, ◌∙◌, sym, ◌⊎◌, inl, inr, ◌∷◌, [], true, false}
use Rattle.std.specs.Ordering.{int_eq}
use Rattle.jiff_core.specs.declared.Offset.{Offset}
use Rattle.jiff_tz.specs.Zone.{ambiguous_at, utc_offset}
use Rattle.jiff_core.specs.declared.civil.datetime.DateTime.{DateTime}
use Rattle.jiff_tz.specs.declared.timezone.TimeZone.{TimeZone}
use Rattle.jiff_tz.specs.declared.timezone.TimeZone.TheVariants.{UTC, Unknown, Fixed}
use Rattle.jiff_tz.specs.declared.ambiguous.AmbiguousOffset.{AmbiguousOffset}
use Rattle.jiff_tz.specs.declared.ambiguous.AmbiguousOffset.TheVariants.{Fold, Unambiguous}
use Rattle.cron_moments.specs.Civil.{civil}
use Rattle.cron_moments.specs.Readings.{reading, readings, readings_by}

pub readings-by : (z : TimeZone) (c : ℕ) (a : AmbiguousOffset) → ambiguous_at z (civil c) ≡ a → readings z c ≡ readings_by c a
unfolding readings
readings-by z c a e = ap (readings_by c) e

pub readings-same : (z : TimeZone) (c : ℕ) (b a : Offset) → ambiguous_at z (civil c) ≡ Fold b a → int_eq b.seconds a.seconds ≡ true
    → readings z c ≡ reading c b ∷ []
unfolding readings
readings-same z c b a e same = rw (e, same)

pub readings-apart : (z : TimeZone) (c : ℕ) (b a : Offset) → ambiguous_at z (civil c) ≡ Fold b a → int_eq b.seconds a.seconds ≡ false
    → readings z c ≡ reading c b ∷ reading c a ∷ []
unfolding readings
readings-apart z c b a e apart = rw (e, apart)

-- a zone with one offset
pub utc_once : (plain z : TimeZone) (dt : DateTime) → plain ≡ z → (plain ≡ UTC) ⊎ (plain ≡ Unknown) → ambiguous_at z dt ≡ Unambiguous utc_offset
unfolding ambiguous_at
utc_once plain z dt e (inl f) = ap (λ x. ambiguous_at x dt) (sym e ∙ f)
utc_once plain z dt e (inr f) = ap (λ x. ambiguous_at x dt) (sym e ∙ f)

pub fixed_once : (plain z : TimeZone) (offset : Offset) (dt : DateTime) → plain ≡ z → plain ≡ Fixed offset → ambiguous_at z dt ≡ Unambiguous offset
unfolding ambiguous_at
fixed_once plain z offset dt e f = ap (λ x. ambiguous_at x dt) (sym e ∙ f)
