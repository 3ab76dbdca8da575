-- Dates of the range: their day numbers, and their places in the order of dates.
use Rattle.std.proofs.Common.{◌≡◌, ℕ, ◌<◌, ◌≤◌, ℤ, pos, negsuc, ◌<ℤ◌, ◌≤ℤ◌, refl, inl, inr, arith, rules, unsigned_abs}
use Rattle.std.proofs.lemmas.Int.{by_lt_z}
use Rattle.jiff_core.specs.declared.civil.date.Date.{Date}
use Rattle.jiff_core.specs.Calendar.{days_from_civil}
use Rattle.jiff_core.specs.Date.{epoch_day}
use Rattle.jiff_core.proofs.SignedLemmas.{signed_arith}
use Rattle.jiff_core.proofs.CalendarLemmas.{days_from_civil-day_count, day_count-epoch, days_in_month_bounds}
use Rattle.jiff_core.proofs.MarchLemmas.{day_count-early}
use Rattle.jiff_core.proofs.DateLemmas.{IsEarlier, days_from_civil-next_year, epoch_day-lt, epoch_day_same, cases_date}
use Rattle.cron_moments.specs.Civil.{days_in_range}
use Rattle.cron_moments.specs.CivilDates.{date_numbered}
use Rattle.cron_moments.specs.Calendar.{rank_of_date}

first_day : days_from_civil (pos 1970) 1 1 ≡ pos 0
first_day = omega (arith, signed_arith, days_from_civil-day_count (pos 1970) 1 1, day_count-epoch)

last_day : days_from_civil (pos 2100) 12 31 ≡ pos 47_846
last_day =
    let after = day_count-early (pos 2101) 12100 1 1 refl (omega arith) (omega arith) (omega arith) in
    omega (arith, signed_arith, days_from_civil-day_count (pos 2101) 1 1, after, days_from_civil-next_year (pos 2100) (pos 2101) (search rules) refl)

first_date : Date
first_date = record { year = pos 1970; month = 1; day = 1; year_in = search rules; month_in = search rules; day_in = search rules }

last_date : Date
last_date = record { year = pos 2100; month = 12; day = 31; year_in = search rules; month_in = search rules; day_in = search rules }

first_epoch : epoch_day first_date ≡ pos 0
unfolding first_date
first_epoch = first_day

last_epoch : epoch_day last_date ≡ pos 47_846
unfolding last_date
last_epoch = last_day

not_earlier : (d : Date) → pos 1970 ≤ℤ d.year → IsEarlier d first_date → ⊥
unfolding first_date
not_earlier d low (inl lt) = omega (arith, signed_arith)
not_earlier d low (inr (e, inl lt)) = omega (arith, d.month_in)
not_earlier d low (inr (e, inr (f, lt))) = omega (arith, d.day_in)

not_later : (d : Date) → d.year ≤ℤ pos 2100 → IsEarlier last_date d → ⊥
unfolding last_date
not_later d high (inl lt) = omega (arith, signed_arith)
not_later d high (inr (e, inl lt)) = omega (arith, d.month_in)
not_later d high (inr (e, inr (f, lt))) = omega (arith, d.day_in, days_in_month_bounds d.year d.month)

-- the day number of a date of these years lies in the range
pub low_day : (d : Date) → pos 1970 ≤ℤ d.year → pos 0 ≤ℤ epoch_day d
low_day d low =
    elim (cases_date first_date d) [
      | inl lt ↦ omega (arith, signed_arith, first_epoch, epoch_day-lt first_date d lt)
      | inr (inl lt) ↦ absurd (not_earlier d low lt)
      | inr (inr (y, m, k)) ↦ omega (arith, signed_arith, first_epoch, epoch_day_same first_date d y m k)
    ]

pub high_day : (d : Date) → d.year ≤ℤ pos 2100 → epoch_day d ≤ℤ pos 47_846
high_day d high =
    elim (cases_date last_date d) [
      | inl lt ↦ absurd (not_later d high lt)
      | inr (inl lt) ↦ omega (arith, signed_arith, last_epoch, epoch_day-lt d last_date lt)
      | inr (inr (y, m, k)) ↦ omega (arith, signed_arith, last_epoch, epoch_day_same last_date d y m k)
    ]

-- and the year of a date with such a day number is one of them
low_year : (d : Date) → pos 0 ≤ℤ epoch_day d → pos 1970 ≤ℤ d.year
unfolding first_date
low_year d h =
    by_lt_z d.year (pos 1970) (λ lt. absurd (omega (arith, signed_arith, first_epoch, epoch_day-lt d first_date (inl lt)))) (λ ge. ge)

pub year_is : (y : ℤ) → pos 1970 ≤ℤ y → y ≡ pos (unsigned_abs y)
year_is (pos n) h = refl
year_is (negsuc n) h = absurd (omega (arith, signed_arith))

years_lt : (a b : ℤ) → pos 1970 ≤ℤ a → a <ℤ b → unsigned_abs a < unsigned_abs b
years_lt (pos a) (pos b) h lt = omega (arith, signed_arith)
years_lt (pos a) (negsuc b) h lt = absurd (omega (arith, signed_arith))
years_lt (negsuc a) b h lt = absurd (omega (arith, signed_arith))

pub day_low : (d : Date) → d.day ≤ 31
day_low d = omega (arith, d.day_in, days_in_month_bounds d.year d.month)

earlier_rank : (a b : Date) → pos 1970 ≤ℤ a.year → IsEarlier a b → rank_of_date a < rank_of_date b
earlier_rank a b low (inl lt) =
    omega (arith, years_lt a.year b.year low lt, a.month_in, b.month_in, day_low a)
earlier_rank a b low (inr (e, inl lt)) =
    let y : unsigned_abs a.year ≡ unsigned_abs b.year = rw e refl in omega (arith, y, a.month_in, b.month_in, day_low a)
earlier_rank a b low (inr (e, inr (f, lt))) =
    let y : unsigned_abs a.year ≡ unsigned_abs b.year = rw e refl in omega (arith, y, f, lt)

pub epoch_at : (n : ℕ) → n < days_in_range → epoch_day (date_numbered n).0 ≡ pos n
epoch_at n h = (date_numbered n).1 (omega arith)

pub low_at : (n : ℕ) → n < days_in_range → pos 1970 ≤ℤ (date_numbered n).0.year
low_at n h = low_year (date_numbered n).0 (omega (arith, signed_arith, epoch_at n h))

-- the places of the days of the range go up with their numbers
pub rank_lt : (i j : ℕ) → i < j → j < days_in_range → rank_of_date (date_numbered i).0 < rank_of_date (date_numbered j).0
rank_lt i j lt h =
    let a = date_numbered i in
    let b = date_numbered j in
    let ei : epoch_day a.0 ≡ pos i = epoch_at i (omega arith) in
    let ej : epoch_day b.0 ≡ pos j = epoch_at j h in
    elim (cases_date a.0 b.0) [
      | inl early ↦ earlier_rank a.0 b.0 (low_at i (omega arith)) early
      | inr (inl late) ↦ absurd (omega (arith, signed_arith, ei, ej, epoch_day-lt b.0 a.0 late))
      | inr (inr (y, m, k)) ↦ absurd (omega (arith, signed_arith, ei, ej, epoch_day_same a.0 b.0 y m k))
    ]
