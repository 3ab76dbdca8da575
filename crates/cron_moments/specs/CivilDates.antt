-- The date of each day number, counted from 1970-01-01: that there is one.
use Rattle.std.specs.Prelude.{◌≡◌, ℕ, zero, suc, ◌+◌, ◌<◌, ◌≤◌, ℤ, pos, ◌+ℤ◌, ◌<ℤ◌, refl}
use Rattle.std.proofs.Common.{arith, rules, sym, ◌∙◌, ap}
use Rattle.std.proofs.lemmas.Int.{by_lt_z}
use Rattle.std.proofs.lemmas.Bool.{cases_lt}
use Rattle.std.proofs.Common.{inl, inr}
use Rattle.jiff_core.specs.declared.civil.date.Date.{Date}
use Rattle.jiff_core.specs.Calendar.{days_from_civil, days_in_month}
use Rattle.jiff_core.specs.Date.{epoch_day}
use Rattle.jiff_core.proofs.SignedLemmas.{signed_arith}
use Rattle.jiff_core.proofs.DateLemmas.{days_from_civil-day, days_from_civil-next_month, days_from_civil-next_year, days_from_civil-max}
use Rattle.jiff_core.proofs.CalendarLemmas.{days_in_month_bounds}

-- a date with the day number n, counted from 1970-01-01
abbrev Dated : ℤ → Type 0
Dated n = (d : Date) × (epoch_day d ≡ n)

first_date : Dated (pos 0)
unfolding days_from_civil
first_date = (
  record { year = pos 1970; month = 1; day = 1; year_in = search rules; month_in = search rules; day_in = search rules },
  omega (arith, signed_arith),
)

next_in_month : (d : Date) → d.day < days_in_month d.year d.month → Dated (epoch_day d +ℤ pos 1)
next_in_month d h = (
  record { year = d.year; month = d.month; day = d.day + 1; year_in = d.year_in; month_in = d.month_in; day_in = (omega arith, omega arith) },
  omega (arith, signed_arith, days_from_civil-day d.year d.month d.day (d.day + 1) d.day_in.0 (omega arith)),
)

next_in_year : (d : Date) → d.day ≡ days_in_month d.year d.month → d.month < 12 → Dated (epoch_day d +ℤ pos 1)
next_in_year d last h =
    let long = days_in_month_bounds d.year (d.month + 1) in (
      record { year = d.year; month = d.month + 1; day = 1; year_in = d.year_in; month_in = (omega arith, omega arith); day_in = (omega arith, omega arith) },
      days_from_civil-next_month d.year d.month d.day d.month_in.0 last,
    )

next_after_year : (d : Date) → d.day ≡ days_in_month d.year d.month → d.month ≡ 12 → epoch_day d <ℤ pos 2_932_896 → Dated (epoch_day d +ℤ pos 1)
next_after_year d last twelve h =
    let thirty_one : d.day ≡ 31 = last ∙ rw twelve refl in
    let at_end : epoch_day d ≡ days_from_civil d.year 12 31 = rw (twelve, thirty_one) refl in
    by_lt_z d.year (pos 9999)
    (λ lt. (
      record {
        year = d.year +ℤ pos 1;
        month = 1;
        day = 1;
        year_in = (omega (arith, signed_arith, d.year_in), omega (arith, signed_arith));
        month_in = search rules;
        day_in = search rules;
      },
      days_from_civil-next_year d.year (d.year +ℤ pos 1) (omega (arith, signed_arith, d.year_in)) refl ∙ ap (λ z. z +ℤ pos 1) (sym at_end),
    ))
    (λ ge. let y : d.year ≡ pos 9999 = omega (arith, signed_arith, d.year_in) in
    let e : days_from_civil d.year 12 31 ≡ pos 2_932_896 = rw y days_from_civil-max in
    absurd (omega (arith, signed_arith)))

next_day : (d : Date) → epoch_day d <ℤ pos 2_932_896 → Dated (epoch_day d +ℤ pos 1)
next_day d h =
    elim (cases_lt d.day (days_in_month d.year d.month)) [
      | inl inside ↦ next_in_month d inside
      | inr last ↦ elim (cases_lt d.month 12) [
        | inl more ↦ next_in_year d (omega (arith, d.day_in)) more
        | inr no_more ↦ next_after_year d (omega (arith, d.day_in)) (omega (arith, d.month_in)) h
      ]
    ]

-- the date with this day number, counted from 1970-01-01; there is only one (`epoch_day_injective`)
pub date_numbered : (n : ℕ) → (d : Date) × (n ≤ 2_932_896 → epoch_day d ≡ pos n)
date_numbered zero = (first_date.0, λ _. first_date.1)
date_numbered (suc n) =
    let before = date_numbered n in
    by_lt_z (epoch_day before.0) (pos 2_932_896)
    (λ lt. let next = next_day before.0 lt in
    (next.0, λ h. let was : epoch_day before.0 ≡ pos n = before.1 (omega arith) in omega (arith, signed_arith, next.1)))
    (λ ge. (before.0, λ h. let was : epoch_day before.0 ≡ pos n = before.1 (omega arith) in absurd (omega (arith, signed_arith))))
