-- Day numbers in closed form, through years that begin in March.
use Rattle.std.proofs.Common.{◌≡◌, ℕ, suc, ◌+◌, ◌-◌, ◌*◌, ◌/◌, ◌%◌, ◌<◌, ◌≤◌, ℤ, pos, ◌+ℤ◌, Bool, true, false, cond, nat_lt, refl, sym, ap, ◌∙◌, inl, inr, arith}
use Rattle.std.proofs.lemmas.Bool.{cases_lt, cases_eq, lt-ltb, le-ltb}
use Rattle.std.proofs.lemmas.Bool.Decides.{nat_tests}
use Rattle.jiff_core.specs.Calendar.{day_count, is_leap_year}
use Rattle.jiff_core.specs.March.{march_days}
use Rattle.jiff_core.proofs.CalendarLemmas.{days_from_civil-day_count, days_in_month_bounds}
use Rattle.jiff_core.proofs.MarchLemmas.{leap_day, day_count-late, day_count-early, day_in_month, day_in_early_month}
use Rattle.jiff_core.proofs.SignedLemmas.{signed_arith}
use Rattle.cron_moments.specs.Civil.{days_in_range, years_in_range}
use Rattle.cron_moments.specs.CivilDates.{date_numbered}
use Rattle.cron_moments.specs.Calendar.{day_number, first_month, leap_days_of, months_end, year_of, month_of, length_of, rank, rank_of_date}
use Rattle.cron_moments.proofs.NumberLemmas.{number_is}

-- the leap day that 2100 lacks
abbrev pub lacking : ℕ → ℕ
lacking month = cond (nat_lt month 25_202) 0 1

-- the leap day that is lacking after so many years
abbrev lacking_after : ℕ → ℕ
lacking_after years = cond (nat_lt years years_in_range) 0 1

-- and the one that is lacking from a day number on
abbrev pub lacking_at : ℕ → ℕ
lacking_at number = cond (nat_lt number 47_541) 0 1

abbrev pub years_before : ℕ → ℕ
years_before month = (1461 * ((month - 23_630) / 12) + 1) / 4

abbrev pub months_before : ℕ → ℕ
months_before month = (153 * ((month - 23_630) % 12) + 2) / 5

march_days_few : (k : ℕ) → k < years_in_range → march_days (11_969 + k) ≡ 4_371_587 + (1461 * k + 1) / 4
march_days_few k h = omega arith

march_days_last : (k : ℕ) → k ≡ years_in_range → march_days (11_969 + k) + 1 ≡ 4_371_587 + (1461 * k + 1) / 4
march_days_last k h = omega arith

-- the days of the years and months before, and those of the month
day_count_late : (month day : ℕ) → first_month ≤ month → month < months_end → 1 ≤ day → 3 ≤ month_of month
    → day_count (pos (year_of month)) (month_of month) day ≡ march_days (11_969 + (month - 23_630) / 12) + months_before month + day + 59
day_count_late month day low high first late =
    let e : month / 12 + 10_000 ≡ 11_969 + (month - 23_630) / 12 = omega arith in
    let n : pos (year_of month) +ℤ pos 10_000 ≡ pos (11_969 + (month - 23_630) / 12) = ap pos e in
    omega (arith, day_count-late (pos (year_of month)) (11_969 + (month - 23_630) / 12) (month_of month) day n late (omega arith) first)

day_count_early : (month day : ℕ) → first_month ≤ month → month < months_end → 1 ≤ day → month_of month ≤ 2
    → day_count (pos (year_of month)) (month_of month) day ≡ march_days (11_969 + (month - 23_630) / 12) + months_before month + day + 59
day_count_early month day low high first early =
    let e : month / 12 + 10_000 ≡ suc (11_969 + (month - 23_630) / 12) = omega arith in
    let n : pos (year_of month) +ℤ pos 10_000 ≡ pos (suc (11_969 + (month - 23_630) / 12)) = ap pos e in
    omega (arith, day_count-early (pos (year_of month)) (11_969 + (month - 23_630) / 12) (month_of month) day n (omega arith) early first)

day_count_march : (month day : ℕ) → first_month ≤ month → month < months_end → 1 ≤ day
    → day_count (pos (year_of month)) (month_of month) day ≡ march_days (11_969 + (month - 23_630) / 12) + months_before month + day + 59
day_count_march month day low high first =
    elim (cases_lt (month_of month) 3) [
      | inl early ↦ day_count_early month day low high first (omega arith)
      | inr late ↦ day_count_late month day low high first late
    ]

march_days_lacking : (month : ℕ) → first_month ≤ month → month < months_end
    → march_days (11_969 + (month - 23_630) / 12) + lacking month ≡ 4_371_587 + years_before month
march_days_lacking month low high =
    elim (cases_lt month 25_202) [
      | inl lt ↦ rw (lt-ltb month 25_202 lt) (omega (arith, march_days_few ((month - 23_630) / 12) (omega arith)))
      | inr ge ↦ rw (le-ltb month 25_202 ge) (omega (arith, march_days_last ((month - 23_630) / 12) (omega arith)))
    ]

-- the number of a day of a month
pub number_closed : (month day : ℕ) → first_month ≤ month → month < months_end → 1 ≤ day → day ≤ length_of month
    → day_number month day + lacking month + 307 ≡ years_before month + months_before month + day
number_closed month day low high first last =
    let n = number_is month day low high first last in
    omega (
      arith,
      signed_arith,
      n.epoch,
      days_from_civil-day_count (pos (year_of month)) (month_of month) day,
      day_count_march month day low high first,
      march_days_lacking month low high,
    )

leap_day_few : (y : ℤ) → leap_day y ≤ 1
leap_day_few y = few (is_leap_year y)
  where
    few : (b : Bool) → cond b 1 0 ≤ 1
    few true = omega arith
    few false = omega arith

-- every fourth year from 1972 to 2096 has a leap day
leap_at : (k : ℕ) → k % 4 ≡ 2 → k < 130 → leap_day (pos (1970 + k)) ≡ 1
leap_at k fourth h = grind (arith, nat_tests)

-- the day that lies that many days behind the first of March of a year
record IsMarchDay (number years rest : ℕ) : Type 0 where
  years_in : years ≤ years_in_range
  rest_in : rest < 365 + leap_day (pos (1970 + years))
  days : number + 306 + lacking_after years ≡ (1461 * years + 1) / 4 + rest

rest_at : (days years : ℕ) → years ≡ (4 * days + 2) / 1461 → years < years_in_range → days < days_in_range → days - (1461 * years + 1) / 4 < 365 + leap_day (pos (1970 + years))
rest_at days years e h fits =
    elim (cases_eq (years % 4) 2) [
      | inl fourth ↦ elim (cases_lt years 130) [
        | inl lt ↦ omega (arith, leap_at years fourth lt)
        | inr ge ↦ omega arith
      ]
      | inr other ↦ omega arith
    ]

march_day : (number lacking years : ℕ) → number < days_in_range → lacking ≡ lacking_at number → years ≡ (4 * (number + 306 + lacking) + 2) / 1461
    → IsMarchDay number years (number + 306 + lacking - (1461 * years + 1) / 4)
march_day number lacking years h el ey =
    elim (cases_lt number 47_541) [
      | inl lt ↦ let none : lacking ≡ 0 = el ∙ rw (lt-ltb number 47_541 lt) refl in
          let few : years < years_in_range = omega arith in
          record {
            years_in = omega arith;
            rest_in = rest_at (number + 306 + lacking) years ey few (omega arith);
            days = rw (lt-ltb years years_in_range few) (omega arith);
          }
      | inr ge ↦ let one : lacking ≡ 1 = el ∙ rw (le-ltb number 47_541 ge) refl in
          let last : years ≡ years_in_range = omega arith in
          record {
            years_in = omega arith;
            rest_in = omega arith;
            days = rw (le-ltb years years_in_range (omega arith)) (omega arith);
          }
    ]

late_in_month : (years rest : ℕ) → (5 * rest + 2) / 153 ≤ 9
    → rest + 1 - (153 * ((5 * rest + 2) / 153) + 2) / 5 ≤ length_of (23_630 + 12 * years + (5 * rest + 2) / 153)
late_in_month years rest late =
    let e : (23_630 + 12 * years + (5 * rest + 2) / 153) / 12 ≡ 1969 + years = omega arith in
    let m : (23_630 + 12 * years + (5 * rest + 2) / 153) % 12 + 1 ≡ (5 * rest + 461) / 153 = omega arith in
    rw (e, m) (omega (arith, day_in_month (pos (1969 + years)) rest (omega arith)))

early_in_month : (years rest : ℕ) → 10 ≤ (5 * rest + 2) / 153 → rest < 365 + leap_day (pos (1970 + years))
    → rest + 1 - (153 * ((5 * rest + 2) / 153) + 2) / 5 ≤ length_of (23_630 + 12 * years + (5 * rest + 2) / 153)
early_in_month years rest early h =
    let short : rest < 366 = omega (arith, leap_day_few (pos (1970 + years))) in
    let e : (23_630 + 12 * years + (5 * rest + 2) / 153) / 12 ≡ 1970 + years = omega arith in
    let m : (23_630 + 12 * years + (5 * rest + 2) / 153) % 12 + 1 ≡ (5 * rest + 461) / 153 - 12 = omega arith in
    rw (e, m) (omega (arith, day_in_early_month (pos (1970 + years)) rest (omega arith) h))

pub in_month : (years rest : ℕ) → rest < 365 + leap_day (pos (1970 + years))
    → rest + 1 - (153 * ((5 * rest + 2) / 153) + 2) / 5 ≤ length_of (23_630 + 12 * years + (5 * rest + 2) / 153)
in_month years rest h =
    elim (cases_lt 9 ((5 * rest + 2) / 153)) [
      | inl early ↦ early_in_month years rest (omega arith) h
      | inr late ↦ late_in_month years rest late
    ]

-- the month and the day of a number
pub record IsMade (number month day : ℕ) : Type 0 where
  pub low : first_month ≤ month
  pub high : month < months_end
  pub first : 1 ≤ day
  pub last : day ≤ length_of month
  pub number_is : day_number month day ≡ number

march_end : (number years rest : ℕ) → number < days_in_range → IsMarchDay number years rest
    → (first_month ≤ 23_630 + 12 * years + (5 * rest + 2) / 153) × (23_630 + 12 * years + (5 * rest + 2) / 153 < months_end)
march_end number years rest h d =
    elim (cases_lt years years_in_range) [
      | inl lt ↦ let few : number + 306 ≡ (1461 * years + 1) / 4 + rest = omega (arith, d.days, cond_lt years lt) in
          let short : rest < 366 = omega (arith, d.rest_in, leap_day_few (pos (1970 + years))) in
          (omega arith, omega arith)
      | inr ge ↦ let years_are : years ≡ years_in_range = omega (arith, d.years_in) in
          let few : number + 307 ≡ (1461 * years + 1) / 4 + rest = omega (arith, d.days, cond_ge years ge) in
          (omega arith, omega arith)
    ]
  where
    cond_lt : (years : ℕ) → years < years_in_range → lacking_after years ≡ 0
    cond_lt years lt = rw (lt-ltb years years_in_range lt) refl

    cond_ge : (years : ℕ) → years_in_range ≤ years → lacking_after years ≡ 1
    cond_ge years ge = rw (le-ltb years years_in_range ge) refl

lacking_by_year : (years months : ℕ) → months < 12 → lacking (23_630 + 12 * years + months) ≡ lacking_after years
lacking_by_year years months h =
    elim (cases_lt years years_in_range) [
      | inl lt ↦ rw (lt-ltb years years_in_range lt, lt-ltb (23_630 + 12 * years + months) 25_202 (omega arith)) refl
      | inr ge ↦ rw (le-ltb years years_in_range ge, le-ltb (23_630 + 12 * years + months) 25_202 (omega arith)) refl
    ]

before : (years months : ℕ) → months < 12
    → (years_before (23_630 + 12 * years + months) ≡ (1461 * years + 1) / 4)
    × (months_before (23_630 + 12 * years + months) ≡ (153 * months + 2) / 5)
before years months h =
    let y : (23_630 + 12 * years + months - 23_630) / 12 ≡ years = omega arith in
    let m : (23_630 + 12 * years + months - 23_630) % 12 ≡ months = omega arith in
    (rw y refl, rw m refl)

made_of : (number years rest : ℕ) → number < days_in_range → IsMarchDay number years rest
    → IsMade number (23_630 + 12 * years + (5 * rest + 2) / 153) (rest + 1 - (153 * ((5 * rest + 2) / 153) + 2) / 5)
made_of number years rest h d =
    let months = (5 * rest + 2) / 153 in
    let short : rest < 366 = omega (arith, d.rest_in, leap_day_few (pos (1970 + years))) in
    let few : (5 * rest + 2) / 153 < 12 = omega arith in
    let end = march_end number years rest h d in
    let last = in_month years rest d.rest_in in
    let closed = number_closed (23_630 + 12 * years + (5 * rest + 2) / 153) (rest + 1 - (153 * ((5 * rest + 2) / 153) + 2) / 5)
    end.0 end.1 (omega arith) last in
    let b = before years ((5 * rest + 2) / 153) few in
    record {
      low = end.0;
      high = end.1;
      first = omega arith;
      last = last;
      number_is = omega (arith, closed, b, lacking_by_year years ((5 * rest + 2) / 153) few, d.days);
    }

pub made_from : (number lacking years : ℕ) → number < days_in_range → lacking ≡ lacking_at number → years ≡ (4 * (number + 306 + lacking) + 2) / 1461
    → (rest : ℕ) → rest ≡ number + 306 + lacking - (1461 * years + 1) / 4
    → IsMade number (23_630 + 12 * years + (5 * rest + 2) / 153) (rest + 1 - (153 * ((5 * rest + 2) / 153) + 2) / 5)
made_from number lacking years h el ey rest er =
    let d = march_day number lacking years h el ey in
    made_of number years rest h (rw er d)

-- its rank is that of the date
pub made_rank : (number lacking : ℕ) → number < days_in_range → lacking ≡ lacking_at number
    → (before : ℕ) → before ≡ (1461 * ((4 * (number + 306 + lacking) + 2) / 1461) + 1) / 4
    → (sooner : ℕ) → sooner ≡ (153 * ((5 * (number + 306 + lacking - before) + 2) / 153) + 2) / 5
    → rank (23_630 + 12 * ((4 * (number + 306 + lacking) + 2) / 1461) + (5 * (number + 306 + lacking - before) + 2) / 153)
    (number + 306 + lacking - before - sooner + 1)
    ≡ rank_of_date (date_numbered number).0
made_rank number lacking h el before eb sooner es =
    let rest = number + 306 + lacking - before in
    let same : rest ≡ number + 306 + lacking - (1461 * ((4 * (number + 306 + lacking) + 2) / 1461) + 1) / 4
    = ap (λ b. number + 306 + lacking - b) eb in
    let made = made_from number lacking ((4 * (number + 306 + lacking) + 2) / 1461) h el refl rest same in
    let at = (number_is _ _ made.low made.high made.first made.last).at in
    let number_same : rank_of_date (date_numbered (day_number _ _)).0 ≡ rank_of_date (date_numbered number).0
    = ap (λ n. rank_of_date (date_numbered n).0) made.number_is in
    let day : rest - sooner + 1 ≡ rest + 1 - (153 * ((5 * rest + 2) / 153) + 2) / 5 = omega (arith, es) in
    ap (λ d. rank (23_630 + 12 * ((4 * (number + 306 + lacking) + 2) / 1461) + (5 * rest + 2) / 153) d) day ∙ sym at ∙ number_same

-- the days of a month go on from its first
pub number_on : (month day : ℕ) → first_month ≤ month → month < months_end → 1 ≤ day → day ≤ length_of month
    → (day_number month 1 + day ≡ day_number month day + 1) × (day_number month day < days_in_range)
number_on month day low high first last =
    let one = number_closed month 1 low high (omega arith) (omega arith) in
    let here = number_closed month day low high first last in
    (omega (arith, one, here), (number_is month day low high first last).in_range)

-- one of its first days
pub known_rank : (month number : ℕ) → first_month ≤ month → month < months_end → day_number month 1 ≤ number
    → number - day_number month 1 < length_of month
    → rank month (number - day_number month 1 + 1) ≡ rank_of_date (date_numbered number).0
known_rank month number low high from near =
    let day = number - day_number month 1 + 1 in
    let fits : day ≤ length_of month = omega arith in
    let is : day_number month day ≡ number = omega (arith, number_on month day low high (omega arith) fits) in
    sym (number_is month day low high (omega arith) fits).at ∙ ap (λ n. rank_of_date (date_numbered n).0) is

-- ---- from January on

-- the first of a month by the days of the years, and by those before the month in its own year
pub of_year : (year place days : ℕ) → 1970 ≤ year → year ≤ 2100 → place < 12 → (place < 2 → days ≡ 31 * place)
    → (2 ≤ place → days ≡ (153 * (place - 2) + 2) / 5 + 59 + leap_days_of year)
    → (first_month ≤ 12 * year + place) × (12 * year + place < months_end) × ((1461 * (year - 1970) + 1) / 4 + days ≡ day_number (12 * year + place) 1)
of_year year place days low high small early late =
    let closed = number_closed (12 * year + place) 1 (omega arith) (omega arith) (omega arith) (first_fits (12 * year + place)) in (
      omega arith,
      omega arith,
      elim (cases_lt place 2) [
        | inl lt ↦ before_march year place days low high lt (early lt) closed
        | inr ge ↦ from_march year place days low high small ge (late ge) closed
      ],
    )
  where
    first_fits : (month : ℕ) → 1 ≤ length_of month
    first_fits month = omega (arith, days_in_month_bounds (pos (year_of month)) (month_of month))

    before_march : (year place days : ℕ) → 1970 ≤ year → year ≤ 2100 → place < 2 → days ≡ 31 * place
        → day_number (12 * year + place) 1 + lacking (12 * year + place) + 307 ≡ years_before (12 * year + place) + months_before (12 * year + place) + 1
        → (1461 * (year - 1970) + 1) / 4 + days ≡ day_number (12 * year + place) 1
    before_march year place days low high lt e closed =
        let y : (12 * year + place - 23_630) / 12 ≡ year - 1970 = omega arith in
        let m : (12 * year + place - 23_630) % 12 ≡ place + 10 = omega arith in
        let none : lacking (12 * year + place) ≡ 0 = rw (lt-ltb (12 * year + place) 25_202 (omega arith)) refl in
        let same = rw (none, y, m) at closed in
        omega (arith, same, e)

    from_march : (year place days : ℕ) → 1970 ≤ year → year ≤ 2100 → place < 12 → 2 ≤ place
        → days ≡ (153 * (place - 2) + 2) / 5 + 59 + leap_days_of year
        → day_number (12 * year + place) 1 + lacking (12 * year + place) + 307 ≡ years_before (12 * year + place) + months_before (12 * year + place) + 1
        → (1461 * (year - 1970) + 1) / 4 + days ≡ day_number (12 * year + place) 1
    from_march year place days low high small ge e closed =
        let y : (12 * year + place - 23_630) / 12 ≡ year - 1969 = omega arith in
        let m : (12 * year + place - 23_630) % 12 ≡ place - 2 = omega arith in
        let same = rw (y, m) at closed in
        grind (arith, nat_tests, same, e)
