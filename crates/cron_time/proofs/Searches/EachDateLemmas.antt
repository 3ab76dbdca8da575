-- Sets that have each date of the range.
use Rattle.std.proofs.Common.{◌≡◌, ℕ, ◌+◌, ◌-◌, ◌<◌, ◌≤◌, ◌&&◌, Bool, true, List, pos, Some, None, refl, sym, ap, subst, ◌∙◌, inl, inr, arith}
use Rattle.std.specs.Prelude.{nat_le, nat_lt}
use Rattle.std.proofs.lemmas.Bool.{and_from, and_left, cases_lt, le-leb, lt-ltb, le-ltb, or_left}
use Rattle.cron_moments.specs.Civil.{days_in_range, years_in_range}
use Rattle.cron_bits.specs.Words.{has_bit, bit_of_three, then_bits}
use Rattle.cron_units.specs.declared.way.Way.{Way}
use Rattle.cron_units.specs.Nearest.{LiesFrom, IsNearest}
use Rattle.cron_units.specs.Sets.{Sets}
use Rattle.cron_units.specs.Units.{contains}
use Rattle.cron_moments.specs.Calendar.{day_number, first_month, length_of, month_of, months_end, rank, rank_of_date, weekday_number, year_of}
use Rattle.cron_moments.specs.CivilDates.{date_numbered}
use Rattle.cron_moments.proofs.NumberLemmas.{number_is}
use Rattle.cron_time.specs.Matches.{IncludesEachDate, has_day, matches_date}
use Rattle.cron_time.specs.Search.Inner.MonthDays.{matches_ranked, matches_weekday, matching_day}
use Rattle.cron_time.specs.Search.Inner.Numbers.{beyond, matches_day}
use Rattle.cron_time.proofs.Searches.MonthDayLemmas.{dated, longest_31, matching_rank, split_matching}
use Rattle.cron_time.proofs.Searches.WayLemmas.{lies_next, lies_not_before, lies_self, not_between}

-- the members from a least one on
has_from : (xs : List ℕ) (least count n : ℕ) → ((k : ℕ) → k < count → contains xs (least + k) ≡ true) → least ≤ n → n < least + count → contains xs n ≡ true
has_from xs least count n all low high =
    let P : ℕ → Type 0 = λ m. contains xs m ≡ true in
    let is : least + (n - least) ≡ n = omega arith in
    subst P is (all (n - least) (omega arith))

then_low : (low rest : ℕ → Bool) (k : ℕ) → k < 64 → then_bits low rest k ≡ low k
then_low low rest k lt = rw (lt-ltb k 64 lt) refl

then_rest : (low rest : ℕ → Bool) (k : ℕ) → 64 ≤ k → then_bits low rest k ≡ rest (k - 64)
then_rest low rest k ge = rw (le-ltb k 64 ge) refl

-- each bit of the years, where those of each of their words are 1
bits_past : (q r k : ℕ) → ((i : ℕ) → i < 64 → has_bit q i ≡ true) → ((i : ℕ) → i < 3 → has_bit r i ≡ true) → k < 67
    → then_bits (has_bit q) (has_bit r) k ≡ true
bits_past q r k second third less =
    elim (cases_lt k 64) [
      | inl lt ↦ then_low (has_bit q) (has_bit r) k lt ∙ second k lt
      | inr ge ↦ then_rest (has_bit q) (has_bit r) k ge ∙ third (k - 64) (omega arith)
    ]

pub each_bit : (p q r k : ℕ) → ((i : ℕ) → i < 64 → has_bit p i ≡ true) → ((i : ℕ) → i < 64 → has_bit q i ≡ true)
    → ((i : ℕ) → i < 3 → has_bit r i ≡ true) → k < years_in_range → bit_of_three p q r k ≡ true
each_bit p q r k first second third less =
    elim (cases_lt k 64) [
      | inl lt ↦ then_low (has_bit p) (then_bits (has_bit q) (has_bit r)) k lt ∙ first k lt
      | inr ge ↦ then_rest (has_bit p) (then_bits (has_bit q) (has_bit r)) k ge ∙ bits_past q r (k - 64) second third (omega arith)
    ]

pub record AreWhole (s : Sets) : Type 0 where
  pub years : (k : ℕ) → k < years_in_range → contains s.years (1970 + k) ≡ true
  pub months : (k : ℕ) → k < 12 → contains s.months (1 + k) ≡ true
  pub days : (k : ℕ) → k < 31 → contains s.days_of_month.ordinals (1 + k) ≡ true
  pub week : (k : ℕ) → k < 7 → contains s.days_of_week (1 + k) ≡ true

each_ranked : (s : Sets) (month day : ℕ) → AreWhole s → first_month ≤ month → month < months_end → 1 ≤ day → day ≤ length_of month
    → matches_ranked s (rank month day) ≡ true
each_ranked s month day w low high first last =
    let short = longest_31 month in
    let year = has_from s.years 1970 years_in_range (year_of month) w.years (omega arith) (omega arith) in
    let month_in = has_from s.months 1 12 (month_of month) w.months (omega arith) (omega arith) in
    let day_in = has_from s.days_of_month.ordinals 1 31 day w.days first (omega (arith, last, short)) in
    let week = has_from s.days_of_week 1 7 (weekday_number (date_numbered (day_number month day)).0) w.week (omega arith) (omega arith) in
    let has = or_left (contains s.days_of_month.ordinals day) _ day_in in
    (split_matching s).passes month day (omega (arith, last, short))
    (and_from (contains s.years (year_of month)) (contains s.months (month_of month)) year month_in)
    (and_from (nat_le 1 day) (matches_day s month day && matches_weekday s month day) (le-leb 1 day first)
    (and_from (matches_day s month day) (matches_weekday s month day)
    (and_from (has_day s.days_of_month (length_of month) day) (nat_le day (length_of month)) has (le-leb day (length_of month) last)) week))

pub each_date : (s : Sets) → AreWhole s → IncludesEachDate s
each_date s w day small =
    let d = dated day small in
    let made = d.is in
    let n = number_is d.month d.day made.low made.high made.first made.last in
    let at : rank_of_date (date_numbered day).0 ≡ rank d.month d.day = sym (ap (λ k. rank_of_date (date_numbered k).0) made.number_is) ∙ n.at in
    sym (matching_rank s day small) ∙ ap (matches_ranked s) at ∙ each_ranked s d.month d.day w made.low made.high made.first made.last

-- ---- the nearest day is the next one

matches_each : (s : Sets) (day : ℕ) → IncludesEachDate s → day < days_in_range → matching_day s day ≡ true
matches_each s day each small = and_from (nat_lt day days_in_range) (matches_date s (date_numbered day).0) (lt-ltb day days_in_range small) (each day small)

pub each_own : (way : Way) (s : Sets) (day : ℕ) → IncludesEachDate s → day < days_in_range → IsNearest way (matching_day s) (pos day) (Some day)
each_own way s day each small =
    record { passes = matches_each s day each small; lies = lies_self way day; nearest = λ k lies early. lies_not_before way day k lies early }

pub each_next : (way : Way) (s : Sets) (day next : ℕ) → IncludesEachDate s → pos next ≡ beyond way day → next < days_in_range
    → IsNearest way (matching_day s) (beyond way day) (Some next)
each_next way s day next each e small = record {
  passes = matches_each s next each small;
  lies = lies_next way day next e;
  nearest = λ k lies early. absurd (not_between way day next k e lies early);
}

pub each_end : (way : Way) (s : Sets) (day : ℕ) → ((k : ℕ) → LiesFrom way (beyond way day) k → days_in_range ≤ k)
    → IsNearest way (matching_day s) (beyond way day) None
each_end way s day out = λ k lies. and_left (nat_lt k days_in_range) (matches_date s (date_numbered k).0) (le-ltb k days_in_range (out k lies))
