-- The schedules of five fields, and the civil seconds that they match.
use Rattle.std.proofs.Common.{◌≡◌, ◌≤◌, ◌<◌, ◌/◌, ◌==◌, ◌&&◌, ◌||◌, ℕ, ℤ, pos, negsuc, ◌≤ℤ◌, Bool, true, false, cond, List, [], ◌∷◌, refl, sym, ap, ◌∙◌, arith}
use Rattle.std.specs.Prelude.{unsigned_abs}
use Rattle.jiff_core.proofs.SignedLemmas.{signed_arith}
use Rattle.jiff_core.specs.declared.civil.date.Date.{Date}
use Rattle.jiff_core.specs.declared.civil.time.Time.{Time}
use Rattle.jiff_core.specs.declared.civil.datetime.DateTime.{DateTime}
use Rattle.cron_units.specs.Units.{FieldSet, contains, set_of, unmarked, whole}
use Rattle.cron_units.specs.Units as units
use Rattle.cron_units.specs.Sets.{Sets}
use Rattle.cron_units.proofs.SetLemmas.{contains_set, whole_is_all}
use Rattle.cron_moments.specs.Calendar.{rank, rank_of_date, weekday_number}
use Rattle.cron_moments.specs.Civil.{civil, seconds_in_range}
use Rattle.cron_moments.specs.CivilDates.{date_numbered}
use Rattle.cron_moments.proofs.DateLemmas.{day_low, low_at}
use Rattle.cron_moments.proofs.NumberLemmas.{number_is}
use Rattle.cron_time.proofs.Searches.MonthDayLemmas.{dated, longest_31}
use Rattle.cron_time.specs.Matches.{contains_year, matches, matches_date, matches_time}
use Rattle.cron_crontab.specs.Crontab.{Five, lies_in, on_both, on_weekday, schedules_of}
use Rattle.cron_tabs.specs.DayRule.{FiveFieldsRun, at_time, matches_one, runs_at}

-- ---- tests

both_of : (y m d w t : Bool) → y ≡ true → (y && m && d && w && t) ≡ (m && (d && w) && t)
both_of true true true w t is = refl
both_of true true false w t is = refl
both_of true false d w t is = refl
both_of false m d w t is = cc

either_of : (y m d w dd ww t : Bool) → y ≡ true → dd ≡ true → ww ≡ true → ((y && m && d && ww && t) || ((y && m && dd && w && t) || false)) ≡ (m && (d || w) && t)
either_of true true true w true true true is all each = refl
either_of true true true true true true false is all each = refl
either_of true true true false true true false is all each = refl
either_of true true false true true true true is all each = refl
either_of true true false true true true false is all each = refl
either_of true true false false true true t is all each = refl
either_of true false d w true true t is all each = refl
either_of false m d w dd ww t is all each = cc
either_of true m d w false ww t is all each = cc
either_of true m d w true false t is all each = cc

lone : (b : Bool) → (b || false) ≡ b
lone true = refl
lone false = refl

-- ---- what lies in whole units

in_whole : (u : units.TimeUnit) (x : ℕ) → u.least ≤ x → x ≤ u.greatest → contains (whole u) x ≡ true
in_whole u x low high = ap (λ xs. contains xs x) (sym (whole_is_all u)) ∙ contains_set u (λ n. true) x low high

weekday_low : (d : Date) → 1 ≤ weekday_number d
weekday_low d = omega arith

weekday_high : (d : Date) → weekday_number d ≤ 7
weekday_high d = omega arith

-- ---- a date, a time

matches_parts : (s : Sets) (dt : DateTime) → matches s dt ≡ (matches_date s dt.date && matches_time s dt.time)
unfolding matches
matches_parts s dt = refl

time_same : (f : Five) (t : Time) → matches_time (on_both f) t ≡ at_time f t
time_same f t =
    let hour = t.hour_in in
    let minute = t.minute_in in
    rw (contains_set units.hours (lies_in f.hour) t.hour (omega arith) (omega arith), contains_set units.minutes (lies_in f.minute) t.minute (omega arith) (omega arith))
    (ap (λ b. lies_in f.hour t.hour && lies_in f.minute t.minute && b) (lone (t.second == 0)))

month_same : (f : Five) (d : Date) → contains (on_both f).months d.month ≡ lies_in f.month d.month
month_same f d = let month = d.month_in in contains_set units.months (lies_in f.month) d.month (month.0) (month.1)

day_same : (f : Five) (d : Date) → contains (set_of units.days_of_month (lies_in f.day_of_month)) d.day ≡ lies_in f.day_of_month d.day
day_same f d =
    let high = day_low d in
    let low = d.day_in in
    contains_set units.days_of_month (lies_in f.day_of_month) d.day (low.0) (omega arith)

week_same : (f : Five) (d : Date) → contains (set_of units.days_of_week (on_weekday f.day_of_week)) (weekday_number d) ≡ on_weekday f.day_of_week (weekday_number d)
week_same f d = contains_set units.days_of_week (on_weekday f.day_of_week) (weekday_number d) (weekday_low d) (weekday_high d)

module _ (f : Five) (dt : DateTime) (year : contains_year (whole units.years) dt.date.year ≡ true) where
  abbrev on_dates : Sets
  on_dates = record (on_both f) { days_of_week = whole units.days_of_week }

  abbrev on_weekdays : Sets
  on_weekdays = record (on_both f) { days_of_month = unmarked (whole units.days_of_month) }

  abbrev month : Bool
  month = lies_in f.month dt.date.month

  abbrev day : Bool
  day = lies_in f.day_of_month dt.date.day

  abbrev weekday : Bool
  weekday = on_weekday f.day_of_week (weekday_number dt.date)

  all_week : contains (whole units.days_of_week) (weekday_number dt.date) ≡ true
  all_week = in_whole units.days_of_week (weekday_number dt.date) (weekday_low dt.date) (weekday_high dt.date)

  all_days : contains (whole units.days_of_month) dt.date.day ≡ true
  all_days = let high = day_low dt.date in let low = dt.date.day_in in in_whole units.days_of_month dt.date.day (low.0) (omega arith)

  -- whether a schedule with the months, hours, minutes and seconds of the fields matches, by its days
  by_days : (days : FieldSet) (weekdays : List ℕ) (d w : Bool) → days.last_day ≡ false → contains days.ordinals dt.date.day ≡ d → contains weekdays (weekday_number dt.date) ≡ w
      → matches (record (on_both f) { days_of_month = days; days_of_week = weekdays }) dt ≡ (true && month && d && w && at_time f dt.time)
  by_days days weekdays d w unmarked day_is week_is =
      matches_parts (record (on_both f) { days_of_month = days; days_of_week = weekdays }) dt
      ∙ rw (year, month_same f dt.date, time_same f dt.time, unmarked, day_is, week_is) (ap (λ b. true && month && b && w && at_time f dt.time) (lone d))

  both : matches (on_both f) dt ≡ (month && (day && weekday) && at_time f dt.time)
  both =
      by_days (on_both f).days_of_month (on_both f).days_of_week day weekday refl (day_same f dt.date) (week_same f dt.date)
      ∙ both_of true month day weekday (at_time f dt.time) refl

  dates : matches on_dates dt ≡ (true && month && day && true && at_time f dt.time)
  dates = by_days (on_both f).days_of_month (whole units.days_of_week) day true refl (day_same f dt.date) all_week

  weeks : matches on_weekdays dt ≡ (true && month && true && weekday && at_time f dt.time)
  weeks = by_days (unmarked (whole units.days_of_month)) (on_both f).days_of_week true weekday refl all_days (week_same f dt.date)

  by_star : (star : Bool) → matches_one (cond star (on_both f ∷ []) (on_dates ∷ on_weekdays ∷ [])) dt
      ≡ (month && cond star (day && weekday) (day || weekday) && at_time f dt.time)
  by_star true = lone (matches (on_both f) dt) ∙ both
  by_star false =
      ap (λ b. b || (matches on_weekdays dt || false)) dates
      ∙ ap (λ b. (true && month && day && true && at_time f dt.time) || (b || false)) weeks
      ∙ either_of true month day weekday true true (at_time f dt.time) refl refl refl

  run : matches_one (schedules_of f) dt ≡ runs_at f dt
  run = by_star (f.day_of_month.star || f.day_of_week.star)

-- ---- the years of the range

year_by : (y : ℤ) → pos 1970 ≤ℤ y → unsigned_abs y ≤ 2100 → contains_year (whole units.years) y ≡ true
year_by (pos n) low high = in_whole units.years n (omega (arith, signed_arith)) (omega arith)
year_by (negsuc n) low high = absurd (omega (arith, signed_arith))

high_at : (n : ℕ) → n < 47_847 → unsigned_abs (date_numbered n).0.year ≤ 2100
high_at n lt =
    let d = dated n lt in
    let made = d.is in
    let number = number_is d.month d.day made.low made.high made.first made.last in
    let at : rank_of_date (date_numbered n).0 ≡ rank d.month d.day = sym (ap (λ k. rank_of_date (date_numbered k).0) made.number_is) ∙ number.at in
    let short = longest_31 d.month in
    let last = made.last in
    let high = made.high in
    let small = day_low (date_numbered n).0 in
    omega (arith, last, short)

year_at : (c : ℕ) → c < seconds_in_range → contains_year (whole units.years) (civil c).date.year ≡ true
unfolding civil
year_at c lt = year_by (date_numbered (c / 86_400)).0.year (low_at (c / 86_400) (omega arith)) (high_at (c / 86_400) (omega arith))

pub fields_run : FiveFieldsRun
fields_run f c lt = run f (civil c) (year_at c lt)
