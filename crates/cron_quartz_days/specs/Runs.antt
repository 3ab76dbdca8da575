-- When the forms of days of Quartz run, in the words of the calendar.
use Rattle.std.specs.Prelude.{◌≡◌, ◌↔◌, ◌≤◌, ◌<◌, ◌+◌, ◌%◌, ◌==◌, ◌&&◌, ℕ, ℤ, Bool, true, List, count_by}
use Rattle.std.specs.List.{range_with_len}
use Rattle.jiff_core.specs.declared.civil.date.Date.{Date}
use Rattle.jiff_core.specs.declared.civil.datetime.DateTime.{DateTime}
use Rattle.jiff_core.specs.Calendar.{days_from_civil, days_in_month}
use Rattle.jiff_core.specs.Calendar as calendar
use Rattle.cron_units.specs.Sets.{Sets}
use Rattle.cron_units.specs.Units.{FieldSet, contains, unmarked, whole}
use Rattle.cron_units.specs.Units as units
use Rattle.cron_moments.specs.Calendar.{weekday_number}
use Rattle.cron_time.specs.Matches.{contains_year, has_day, matches_time}
use Rattle.cron_tabs.specs.DayRule.{matches_one}
use Rattle.cron_quartz.specs.Days.{Days, dates, before_last, weekdays, last_weekday, nth_weekday, schedules_of}

-- a schedule has all days of the month and of the week, as the one that a form of days is added to
pub record HasAllDays (s : Sets) : Type 0 where
  pub days_of_month : s.days_of_month ≡ unmarked (whole units.days_of_month)
  pub days_of_week : s.days_of_week ≡ whole units.days_of_week

-- the year, the month and the time of day match
abbrev pub matches_but_days : Sets → DateTime → Bool
matches_but_days s dt = contains_year s.years dt.date.year && contains s.months dt.date.month && matches_time s dt.time

-- the schedules of a form match a datetime exactly if all but the days matches and its date has the
-- property
abbrev pub RunsOn : Days → (Date → Type 0) → Type 0
RunsOn days IsSo =
    (s : Sets) (dt : DateTime) → HasAllDays s → (matches_one (schedules_of days s) dt ≡ true) ↔ ((matches_but_days s dt ≡ true) × IsSo dt.date)

-- ---- days of the month

abbrev pub DatesRun : Type 0
DatesRun = (days : FieldSet) → RunsOn (dates days) (λ d. has_day days (days_in_month d.year d.month) d.day ≡ true)

-- `L` or `L-3` runs on exactly the day that k more days of its month follow
abbrev pub BeforeLastRuns : Type 0
BeforeLastRuns = (k : ℕ) → RunsOn (before_last k) (λ d. d.day + k ≡ days_in_month d.year d.month)

-- ---- days of the week

-- the day of the week of a day of a month, from 1 for Sunday
abbrev pub weekday_in : ℤ → ℕ → ℕ → ℕ
weekday_in year month day = (calendar.weekday_number (days_from_civil year month day) + 1) % 7 + 1

abbrev pub WeekdaysRun : Type 0
WeekdaysRun = (week : List ℕ) → RunsOn (weekdays week) (λ d. contains week (weekday_number d) ≡ true)

-- the date d has the day of the week w, and no later day of its month has it
pub record IsLastWeekday (w : ℕ) (d : Date) : Type 0 where
  pub weekday : weekday_number d ≡ w
  pub last : (day : ℕ) → d.day < day → day ≤ days_in_month d.year d.month → weekday_in d.year d.month day ≡ w → ⊥

abbrev pub LastWeekdayRuns : Type 0
LastWeekdayRuns = (w : ℕ) → RunsOn (last_weekday w) (IsLastWeekday w)

-- how many days of its month, up to the date itself, have its day of the week
abbrev pub place_in_month : Date → ℕ
place_in_month d = count_by (λ day. weekday_in d.year d.month day == weekday_number d) (range_with_len 1 d.day)

-- the date d has the day of the week w, and is the n-th day of its month that has it
pub record IsNthWeekday (w n : ℕ) (d : Date) : Type 0 where
  pub weekday : weekday_number d ≡ w
  pub place : place_in_month d ≡ n

abbrev pub NthWeekdayRuns : Type 0
NthWeekdayRuns = (w n : ℕ) → RunsOn (nth_weekday w n) (IsNthWeekday w n)
