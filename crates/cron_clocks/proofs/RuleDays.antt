-- The days of a year among which a rule's day is in every year.
use Rattle.std.proofs.Common.{◌≡◌, ℕ, ◌+◌, ◌-◌, ◌*◌, ◌%◌, ◌<◌, ◌≤◌, Bool, true, false, cond, ◌&&◌, nat_le, ℤ, pos, ◌+ℤ◌, ◌-ℤ◌, ◌≤ℤ◌, refl, arith, min, ◌==◌, nat_lt}
use Rattle.std.proofs.lemmas.Bool.Decides.{nat_tests}
use Rattle.std.proofs.lemmas.Bool.{lt-ltb}
use Rattle.jiff_core.specs.Calendar.{days_from_civil, days_in_month, days_in_year, is_leap_year, days_of_months}
use Rattle.jiff_core.proofs.CalendarLemmas.{days_from_civil-day_count, day_count-day_of_year, days_in_month_bounds, days_in_year_bounds}
use Rattle.jiff_core.proofs.DateLemmas.{days_from_civil-day}
use Rattle.jiff_core.proofs.MarchLemmas.{leap_day}
use Rattle.jiff_core.proofs.SignedLemmas.{signed_arith}
use Rattle.jiff_tz.specs.declared.posix.Day.TheVariants.{JulianOne, JulianZero, WeekdayOfMonth}
use Rattle.jiff_tz.specs.PosixRule.{first_day, rule_day, sunday_number, nth_weekday, last_weekday}
use Rattle.cron_clocks.specs.Transitions.{IsAmong}

-- the days before a month, in the shorter years and in each
pub leap_few : (y : ℤ) → leap_day y ≤ 1
leap_few y = few (is_leap_year y)
  where
    few : (b : Bool) → cond b 1 0 ≤ 1
    few true = omega arith
    few false = omega arith

month_start : (y : ℤ) (m : ℕ) → days_from_civil y m 1 ≡ first_day y +ℤ pos (days_of_months y (m - 1))
month_start y m =
    omega (arith, signed_arith, days_from_civil-day_count y m 1, days_from_civil-day_count y 1 1, day_count-day_of_year y m 1 (omega arith))

month_end : (y : ℤ) (m : ℕ) → days_from_civil y m (days_in_month y m) +ℤ pos 1 ≡ days_from_civil y m 1 +ℤ pos (days_in_month y m)
month_end y m =
    days_from_civil-day y m (days_in_month y m) 1 (omega (arith, days_in_month_bounds y m)) (omega arith)

module _ (y : ℤ) (m p : ℕ) (days_low : p ≤ days_of_months y (m - 1)) (days_high : days_of_months y (m - 1) ≤ p + 1) where
  nth_among : (w r : ℕ) → 1 ≤ m → 1 ≤ w → w ≤ 4 → r < 7
      → ((first_day y +ℤ pos (p + 7 * (min w 4 - 1))) ≤ℤ (days_from_civil y m 1 +ℤ pos r +ℤ pos (7 * (w - 1))))
      × ((days_from_civil y m 1 +ℤ pos r +ℤ pos (7 * (w - 1))) ≤ℤ (first_day y +ℤ pos (p + min (7 * w) 31)))
  nth_among w r first low high small =
      let start = month_start y m in
      (omega (arith, signed_arith), omega (arith, signed_arith))

  last_among : (r : ℕ) → 1 ≤ m → r < 7
      → ((first_day y +ℤ pos (p + 7 * (min 5 4 - 1))) ≤ℤ (days_from_civil y m (days_in_month y m) -ℤ pos r))
      × ((days_from_civil y m (days_in_month y m) -ℤ pos r) ≤ℤ (first_day y +ℤ pos (p + min (7 * 5) 31)))
  last_among r first small =
      let month = days_in_month_bounds y m in
      let start = month_start y m in
      let end = month_end y m in
      (omega (arith, signed_arith), omega (arith, signed_arith))

  week_among : (w d : ℕ) → 1 ≤ m → 1 ≤ w → w ≤ 5
      → (b : Bool) → (w == 5) ≡ b
      → ((first_day y +ℤ pos (p + 7 * (min w 4 - 1))) ≤ℤ cond b (last_weekday y m d) (nth_weekday y m w d))
      × (cond b (last_weekday y m d) (nth_weekday y m w d) ≤ℤ (first_day y +ℤ pos (p + min (7 * w) 31)))
  week_among w d first low high true e =
      let five : w ≡ 5 = grind (arith, nat_tests) in
      rw five (last_among ((sunday_number (days_from_civil y m (days_in_month y m)) + 7 - d) % 7) first (omega arith))
  week_among w d first low high false e =
      let four : w ≤ 4 = grind (arith, nat_tests) in
      nth_among w ((d + 7 - sunday_number (days_from_civil y m 1)) % 7) first low four (omega arith)

  pub weekday_among : (w d : ℕ) → 1 ≤ m → 1 ≤ w → w ≤ 5 → IsAmong (p + 7 * (min w 4 - 1)) (p + min (7 * w) 31) (WeekdayOfMonth m w d) y
  unfolding rule_day
  weekday_among w d first low high =
      let among = week_among w d first low high (w == 5) refl in
      record { number = _; named = refl; low = among.0; high = among.1 }

leap_step : (b : Bool) → cond b 1 0 ≤ 1
leap_step true = omega arith
leap_step false = omega arith

pub julian_one_among : (y : ℤ) (n : ℕ) → 1 ≤ n → IsAmong (n - 1) n (JulianOne n) y
unfolding rule_day
julian_one_among y n first =
    let step = leap_step (is_leap_year y && nat_le 60 n) in
    record { number = _; named = refl; low = omega (arith, signed_arith); high = omega (arith, signed_arith, step) }

pub julian_zero_among : (y : ℤ) (n : ℕ) → n < 365 → IsAmong n n (JulianZero n) y
unfolding rule_day
julian_zero_among y n short =
    let long = days_in_year_bounds y in
    let there : nat_lt n (days_in_year y) ≡ true = lt-ltb n (days_in_year y) (omega arith) in
    record { number = first_day y +ℤ pos n; named = rw there refl; low = omega (arith, signed_arith); high = omega (arith, signed_arith) }
