-- The years of the range.
use Rattle.std.proofs.Common.{◌≡◌, ◌<◌, ◌≤◌, ℕ, ℤ, pos, ◌<ℤ◌, ◌≤ℤ◌, ◌/◌, refl, sym, subst, inl, arith, rules, unsigned_abs}
use Rattle.std.proofs.lemmas.Int.{by_lt_z}
use Rattle.jiff_core.specs.Calendar.{day_count, days_from_civil, days_of_months, days_of_years}
use Rattle.jiff_core.specs.Date.{epoch_day}
use Rattle.jiff_core.specs.declared.civil.date.Date.{Date}
use Rattle.jiff_core.proofs.DateLemmas.{epoch_day-lt}
use Rattle.jiff_core.proofs.SignedLemmas.{signed_arith}
use Rattle.cron_moments.specs.Civil.{civil, days_in_range, seconds_in_range}
use Rattle.cron_moments.specs.CivilDates.{date_numbered}
use Rattle.cron_moments.proofs.CivilLemmas.{date-civil}
use Rattle.cron_moments.proofs.DateLemmas.{epoch_at, low_at, year_is}
use Rattle.cron_oncalendar.specs.Inner.Pieces.{IsInYears}

last_date : Date
last_date = record { year = pos 2100; month = 12; day = 31; year_in = search rules; month_in = search rules; day_in = search rules }

last_epoch : epoch_day last_date ≡ pos 47_846
unfolding last_date day_count days_from_civil days_of_months days_of_years
last_epoch = refl

no_later_year : (d : Date) → pos 2100 <ℤ d.year → pos 47_846 <ℤ epoch_day d
unfolding last_date
no_later_year d late = omega (arith, signed_arith, last_epoch, epoch_day-lt last_date d (inl late))

in_years : (d : Date) (n : ℕ) → n < days_in_range → epoch_day d ≡ pos n → pos 1970 ≤ℤ d.year → IsInYears d
in_years d n less e low =
    let number : d.year ≡ pos (unsigned_abs d.year) = year_is d.year low in
    by_lt_z (pos 2100) d.year
    (λ late. absurd (omega (arith, signed_arith, e, no_later_year d late)))
    (λ high. record {
      number = unsigned_abs d.year;
      is = number;
      low = omega (arith, signed_arith, number);
      high = omega (arith, signed_arith, number);
    })

pub civil_in_years : (c : ℕ) → c < seconds_in_range → IsInYears (civil c).date
civil_in_years c less =
    let day : c / 86_400 < days_in_range = omega arith in
    subst IsInYears (sym (date-civil c)) (in_years (date_numbered (c / 86_400)).0 (c / 86_400) day (epoch_at (c / 86_400) day) (low_at (c / 86_400) day))
