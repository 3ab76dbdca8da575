-- The days of days, weeks and months.
use Rattle.std.proofs.Common.{◌≡◌, ℕ, ◌+◌, ◌-◌, ◌*◌, ◌<◌, ◌≤◌, pos, Bool, min, refl, sym, ap, ◌∙◌, inl, inr, arith}
use Rattle.std.proofs.lemmas.Bool.{cases_lt, cases_order}
use Rattle.jiff_core.proofs.CalendarLemmas.{days_in_month_bounds}
use Rattle.cron_moments.specs.Calendar.{day_number, first_month, months_end, month_of, rank, rank_of_date, year_of}
use Rattle.cron_moments.specs.Civil.{days_in_range}
use Rattle.cron_moments.specs.CivilDates.{date_numbered}
use Rattle.cron_moments.proofs.DateLemmas.{day_low, rank_lt}
use Rattle.cron_moments.proofs.MarchLemmas.{IsMade, made_from}
use Rattle.cron_moments.proofs.NumberLemmas.{number_is}
use Rattle.cron_days.specs.declared.period.Period.{Period}
use Rattle.cron_days.specs.declared.period.Period.TheVariants.{Day, Week, Month}
use Rattle.cron_days.specs.Inner.Starts.{IsStart}
use Rattle.cron_days.specs.Days.{IsRow}
use Rattle.cron_days.specs.Rules.{is_steps_apart, place_of}
use Rattle.cron_days.specs.Rules as rules

-- the month of a rank is that of the date
pub month_of_rank : (n month day : ℕ) → rank month day ≡ rank_of_date (date_numbered n).0 → day ≤ 31 → 1 ≤ day → month ≡ rules.month_of n
month_of_rank n month day e high low =
    let d = (date_numbered n).0 in omega (arith, day_low d, d.day_in)

made_in_range : (n month day : ℕ) → IsMade n month day → (first_month ≤ rules.month_of n) × (rules.month_of n < months_end)
made_in_range n month day made =
    let at = (number_is month day made.low made.high made.first made.last).at in
    let same : rank_of_date (date_numbered (day_number month day)).0 ≡ rank_of_date (date_numbered n).0 = ap (λ k. rank_of_date (date_numbered k).0) made.number_is in
    let short : day ≤ 31 = omega (arith, made.last, days_in_month_bounds (pos (year_of month)) (month_of month)) in
    let is : month ≡ rules.month_of n = month_of_rank n month day (sym at ∙ same) short made.first in
    (omega (arith, made.low), omega (arith, made.high))

-- it is a month of the range
pub month_in_range : (n : ℕ) → n < days_in_range → (first_month ≤ rules.month_of n) × (rules.month_of n < months_end)
month_in_range n h = made_in_range n _ _ (made_from n _ _ h refl refl _ refl)

module _ (month : ℕ) (low : first_month ≤ month) (high : month < months_end) where
  first_rank : rank_of_date (date_numbered (day_number month 1)).0 ≡ month * 100 + 1
  first_rank = (number_is month 1 low high (omega arith) (omega (arith, days_in_month_bounds (pos (year_of month)) (month_of month)))).at

  first_in_range : day_number month 1 < days_in_range
  first_in_range = (number_is month 1 low high (omega arith) (omega (arith, days_in_month_bounds (pos (year_of month)) (month_of month)))).in_range

  pub month_starts : (first : ℕ) → first ≡ day_number month 1 → IsStart Month month first
  month_starts first is = record {
    earlier = λ k h less.
        let d = (date_numbered k).0 in
        omega (arith, rank_lt k (day_number month 1) (omega arith) first_in_range, first_rank, d.day_in);
    later = λ k h more.
        elim (cases_order (day_number month 1) k) [
          | inl same ↦
              let d = (date_numbered k).0 in
              omega (arith, sym first_rank ∙ ap (λ j. rank_of_date (date_numbered j).0) same, day_low d, d.day_in)
          | inr (inl less) ↦
              let d = (date_numbered k).0 in
              omega (arith, rank_lt (day_number month 1) k less h, first_rank, day_low d, d.day_in)
          | inr (inr past) ↦ absurd (omega arith)
        ];
  }

pub months_before : (month : ℕ) → month ≤ first_month → IsStart Month month 0
months_before month le = record {
  earlier = λ k h less. absurd (omega arith);
  later = λ k h more. omega (arith, month_in_range k h);
}

pub months_after : (month : ℕ) → months_end ≤ month → IsStart Month month days_in_range
months_after month ge = record {
  earlier = λ k h less. omega (arith, month_in_range k h);
  later = λ k h more. absurd (omega arith);
}

pub days_start : (place first : ℕ) → first ≡ min place days_in_range → IsStart Day place first
days_start place first is = record {
  earlier = λ k h less. omega arith;
  later = λ k h more. omega arith;
}

pub weeks_start : (place first : ℕ) → first ≡ min (7 * place - 3) days_in_range → IsStart Week place first
weeks_start place first is = record {
  earlier = λ k h less. omega arith;
  later = λ k h more. omega arith;
}

-- days from the start of one day, week or month to that of another
pub row_of_places : (period : Period) (step anchor day first end a b : ℕ) (allowed : Bool) → day < days_in_range → IsStart period first a → IsStart period end b
    → b ≤ days_in_range → first ≤ place_of period day → place_of period day < end
    → ((x : ℕ) → first ≤ x → x < end → is_steps_apart step anchor x ≡ allowed)
    → IsRow (λ n. is_steps_apart step anchor (place_of period n)) day (record { first = a; last = b - 1; allowed = allowed })
row_of_places period step anchor day first end a b allowed high start stop short low less alike =
    let from : a ≤ day = elim (cases_lt day a) [
      | inl before ↦ absurd (omega (arith, start.earlier day high before))
      | inr ge ↦ ge
    ] in
    let to : day < b = elim (cases_lt day b) [
      | inl before ↦ before
      | inr ge ↦ absurd (omega (arith, stop.later day high ge))
    ] in
    record {
      from = from;
      to = omega arith;
      in_range = omega arith;
      alike = λ k low high. alike (place_of period k) (start.later k (omega arith) low) (stop.earlier k (omega arith) (omega arith));
    }
