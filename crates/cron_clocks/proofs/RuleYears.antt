-- The year of an instant, from the civil seconds that begin the years.
use Rattle.std.proofs.Common.{◌≡◌, ℕ, suc, ◌+◌, ℤ, pos, negsuc, ◌+ℤ◌, ◌-ℤ◌, ◌≤ℤ◌, ◌<ℤ◌, refl, ap, ◌∙◌, arith, unsigned_abs}
use Rattle.std.specs.Int.{int_div_euclid}
use Rattle.jiff_core.specs.Calendar.{IsYear, days_in_year, days_of_years, day_count}
use Rattle.jiff_core.specs.Timestamp.{nanos_of_seconds}
use Rattle.jiff_core.proofs.CalendarLemmas.{days_from_civil-day_count, day_count-next_year, days_of_months-zero}
use Rattle.jiff_core.proofs.SignedLemmas.{signed_arith}
use Rattle.jiff_tz.specs.PosixRule.{first_day}
use Rattle.jiff_tz.specs.Year.{year_of_nanos}
use Rattle.jiff_tz.proofs.YearLemmas.{years_within_is}
use Rattle.cron_clocks.specs.Transitions.{year_start}

not_negative : (z : ℤ) → pos 0 ≤ℤ z → pos (unsigned_abs z) ≡ z
not_negative (pos n) h = refl
not_negative (negsuc n) h = absurd (omega (arith, signed_arith))

-- a year begins after the days of the one before it
pub first_day-next : (y next : ℤ) → IsYear y → next ≡ y +ℤ pos 1 → first_day next ≡ first_day y +ℤ pos (days_in_year y)
first_day-next y next year e =
    omega (arith, signed_arith, days_from_civil-day_count y 1 1, days_from_civil-day_count next 1 1, day_count-next_year y next (omega (arith, signed_arith)) e)

-- the days before a year, counted from the year -10000 on
days_before : (y : ℤ) → day_count y 1 1 ≡ days_of_years (unsigned_abs (y +ℤ pos 10000))
unfolding day_count
days_before y = omega (arith, days_of_months-zero y)

days_of_years-next : (k : ℕ) → days_of_years (suc k) ≡ days_of_years k + days_in_year (pos k -ℤ pos 10000)
unfolding days_of_years
days_of_years-next k = refl

-- the whole days of an instant in a year
day_in_year : (y next n : ℤ) → year_start y ≤ℤ n → n <ℤ year_start next
    → (first_day y ≤ℤ int_div_euclid (nanos_of_seconds n) (pos 86_400_000_000_000))
    × (int_div_euclid (nanos_of_seconds n) (pos 86_400_000_000_000) <ℤ first_day next)
day_in_year y next n low high = (omega (arith, signed_arith), omega (arith, signed_arith))

pub year_of_nanos-is : (y next n : ℤ) → IsYear y → next ≡ y +ℤ pos 1 → year_start y ≤ℤ n → n <ℤ year_start next → year_of_nanos (nanos_of_seconds n) ≡ y
year_of_nanos-is y next n year e low high =
    let days = day_in_year y next n low high in
    let q : ℤ = int_div_euclid (nanos_of_seconds n) (pos 86_400_000_000_000) in
    let k : ℕ = unsigned_abs (y +ℤ pos 10000) in
    let shifted = not_negative (y +ℤ pos 10000) (omega (arith, signed_arith)) in
    let this_year : pos k -ℤ pos 10000 ≡ y = omega (arith, signed_arith) in
    let step = days_of_years-next k in
    let length : days_in_year (pos k -ℤ pos 10000) ≡ days_in_year y = ap days_in_year this_year in
    let count = days_from_civil-day_count y 1 1 in
    let before = days_before y in
    let after = first_day-next y next year e in
    let from_start = not_negative (q +ℤ pos 4_371_953) (omega (arith, signed_arith)) in
    let within =
    years_within_is 20000 k (unsigned_abs (q +ℤ pos 4_371_953)) (omega (arith, signed_arith)) (omega (arith, signed_arith)) (omega (arith, signed_arith)) in
    ap (λ j. pos j -ℤ pos 10000) within ∙ this_year
