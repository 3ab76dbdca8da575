-- Fires before an instant.
use Rattle.std.proofs.Common.{◌≡◌, ℤ, pos, ◌*ℤ◌, ◌-ℤ◌, ◌≤ℤ◌, neg_ℤ, false, inl, inr, ap, sym, ◌∙◌, arith}
use Rattle.std.specs.Prelude.{reverse}
use Rattle.jiff_core.proofs.SignedLemmas.{signed_arith}
use Rattle.jiff_tz.specs.declared.timezone.TimeZone.{TimeZone}
use Rattle.cron_clocks.proofs.Windows.{le_no}
use Rattle.cron_dues.specs.Due as dues
use Rattle.cron_dues.specs.Due.{Due}
use Rattle.cron_dues.specs.Dues.{is_due_by, dues, dues_back}
use Rattle.cron_instants.specs.Fires.{is_by}
use Rattle.cron_moments.specs.Readings as moments
use Rattle.cron_moments.specs.Readings.{Reading}
use Rattle.cron_time.proofs.ListLemmas.{filter-alike}
use Rattle.cron_time.specs.Seconds.{Seconds}
use Rattle.cron_instants.specs.Fires as shown
use Rattle.cron_answers.specs.Fires.{dues_before, moments_before}
use Rattle.cron_answers.specs.Inner.Backs.{IsJustBefore}

not_by : (t : ℤ) (r : Reading) → t ≤ℤ neg_ℤ (pos 377_705_023_201_000_000_000) → is_by t r ≡ false
not_by t r low =
    let far = r.offset.in_range in le_no (moments.instant r *ℤ pos 1_000_000_000) t (omega (arith, signed_arith))

not_due_by : (t : ℤ) (d : Due) → t ≤ℤ neg_ℤ (pos 377_705_023_201_000_000_000) → is_due_by t d ≡ false
not_due_by t d low =
    let far = d.offset.in_range in le_no (dues.instant d *ℤ pos 1_000_000_000) t (omega (arith, signed_arith))

pub moments-just_before : (s : Seconds) (z : TimeZone) (u t : ℤ) → IsJustBefore u t → shown.fires_back s z t ≡ moments_before s z u
moments-just_before s z u t (inl e) = ap (shown.fires_back s z) e
moments-just_before s z u t (inr (e, low)) =
    ap reverse (filter-alike (is_by t) (is_by (u -ℤ pos 1)) (shown.fires s z)
    (λ r h. not_by t r (omega (arith, signed_arith)) ∙ sym (not_by (u -ℤ pos 1) r (omega (arith, signed_arith)))))

pub dues-just_before : (s : Seconds) (z : TimeZone) (u t : ℤ) → IsJustBefore u t → dues_back s z t ≡ dues_before s z u
dues-just_before s z u t (inl e) = ap (dues_back s z) e
dues-just_before s z u t (inr (e, low)) =
    ap reverse (filter-alike (is_due_by t) (is_due_by (u -ℤ pos 1)) (dues s z)
    (λ d h. not_due_by t d (omega (arith, signed_arith)) ∙ sym (not_due_by (u -ℤ pos 1) d (omega (arith, signed_arith)))))

-- the instant before the one of a due fire
pub just_before-due : (d : Due) (u t : ℤ) → u ≡ dues.instant d *ℤ pos 1_000_000_000 → IsJustBefore u t → t ≡ dues.instant d *ℤ pos 1_000_000_000 -ℤ pos 1
just_before-due d u t e (inl before) = before ∙ ap (λ n. n -ℤ pos 1) e
just_before-due d u t e (inr (same, low)) = let far = d.offset.in_range in omega (arith, signed_arith)
