-- The day numbers of the days of a month.
use Rattle.std.proofs.Common.{◌≡◌, ℕ, ◌+◌, ◌%◌, ◌<◌, ◌≤◌, ℤ, pos, negsuc, ◌≤ℤ◌, unsigned_abs, refl, sym, ap, ◌∙◌, arith}
use Rattle.jiff_core.specs.declared.civil.date.Date.{Date}
use Rattle.jiff_core.specs.Calendar.{days_from_civil}
use Rattle.jiff_core.specs.Date.{epoch_day}
use Rattle.jiff_core.proofs.CalendarLemmas.{weekday_number-parts}
use Rattle.jiff_core.proofs.SignedLemmas.{signed_arith}
use Rattle.cron_moments.specs.Civil.{days_in_range}
use Rattle.cron_moments.specs.Calendar.{rank, rank_of_date, day_number, year_of, month_of, length_of, first_month, months_end, weekday_number}
use Rattle.cron_moments.specs.CivilDates.{date_numbered}
use Rattle.cron_moments.proofs.CivilLemmas.{is_date_numbered}
use Rattle.cron_moments.proofs.DateLemmas.{low_day, high_day}

-- n is the number of the day of the month
pub record IsNumber (month day n : ℕ) : Type 0 where
  pub in_range : n < days_in_range
  pub epoch : days_from_civil (pos (year_of month)) (month_of month) day ≡ pos n
  pub at : rank_of_date (date_numbered n).0 ≡ rank month day

nonnegative : (z : ℤ) → pos 0 ≤ℤ z → z ≡ pos (unsigned_abs z)
nonnegative (pos n) h = refl
nonnegative (negsuc n) h = absurd (omega (arith, signed_arith))

made : (month day : ℕ) → first_month ≤ month → month < months_end → 1 ≤ day → day ≤ length_of month → Date
made month day low high first last = record {
  year = pos (year_of month);
  month = month_of month;
  day = day;
  year_in = (omega (arith, signed_arith), omega (arith, signed_arith));
  month_in = (omega arith, omega arith);
  day_in = (first, last);
}

made_rank : (month day : ℕ) (low : first_month ≤ month) (high : month < months_end) (first : 1 ≤ day) (last : day ≤ length_of month)
    → rank_of_date (made month day low high first last) ≡ rank month day
unfolding made
made_rank month day low high first last = omega arith

pub number_is : (month day : ℕ) → first_month ≤ month → month < months_end → 1 ≤ day → day ≤ length_of month → IsNumber month day (day_number month day)
unfolding made
number_is month day low high first last =
    let d = made month day low high first last in
    let above : pos 0 ≤ℤ epoch_day d = low_day d (omega (arith, signed_arith)) in
    let below : epoch_day d ≤ℤ pos 47_846 = high_day d (omega (arith, signed_arith)) in
    let e : epoch_day d ≡ pos (day_number month day) = nonnegative (epoch_day d) above in
    let small : day_number month day < days_in_range = omega (arith, signed_arith) in
    let same : d ≡ (date_numbered (day_number month day)).0 = is_date_numbered d (day_number month day) (omega arith) e in
    record {
      in_range = small;
      epoch = e;
      at = ap (λ x. rank_of_date x) (sym same) ∙ made_rank month day low high first last;
    }

-- the day of the week by the day number, from 1 for Sunday
pub weekday_by_number : (date : Date) (n : ℕ) → epoch_day date ≡ pos n → (n + 4) % 7 + 1 ≡ weekday_number date
weekday_by_number date n e =
    omega (arith, signed_arith, weekday_number-parts (epoch_day date), e)
