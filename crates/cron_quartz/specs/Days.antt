-- What Quartz writes in its two fields of days, and the schedules that each form means.
use Rattle.std.specs.Prelude.{ℕ, ◌==◌, ◌&&◌, ◌+◌, ◌-◌, ◌*◌, ◌++◌, Bool, true, not, pos, nat_le, nat_lt, List, [], ◌∷◌, filter, if◌then◌else◌}
use Rattle.jiff_core.specs.Calendar.{days_in_month, is_leap_year}
use Rattle.cron_units.specs.Sets.{Sets}
use Rattle.cron_units.specs.Units.{FieldSet, set_of, unmarked, with_mark}
use Rattle.cron_units.specs.Units as units

-- Days of the month, or one by its place: `L` and `L-3` count from the last day, and `15W` is the
-- workday nearest to the 15th. `LW` and `L-3W` are the workdays nearest to the last day and to the
-- third before it. Or days of the week, the last such day of its month, `6L`, or the n-th, `6#3`.
pub data Days : Type 0 where
  dates : FieldSet → Days
  before_last : ℕ → Days
  nearest_workday : ℕ → Days
  last_workday : ℕ → Days
  weekdays : List ℕ → Days
  last_weekday : ℕ → Days
  nth_weekday : ℕ → ℕ → Days

-- ---- months by their length

-- month m has n days, in a leap year if n is 29, and else in a common year
abbrev pub has_length : ℕ → ℕ → Bool
has_length n m = days_in_month (if n == 29 then pos 2000 else pos 2001) m == n

-- February of the year y has n days; true of every year if n is neither 28 nor 29
abbrev pub year_fits : ℕ → ℕ → Bool
year_fits n y = if n == 29 then is_leap_year (pos y) else if n == 28 then not (is_leap_year (pos y)) else true

-- a schedule limited to months of n days
abbrev pub in_length : ℕ → Sets → Sets
in_length n s = record s { months = filter (has_length n) s.months; years = filter (year_fits n) s.years }

-- the schedules of a form for months of each length, 28 to 31
abbrev pub by_length : (ℕ → Sets → List Sets) → Sets → List Sets
by_length form s = ((form 28 (in_length 28 s) ++ form 29 (in_length 29 s)) ++ form 30 (in_length 30 s)) ++ form 31 (in_length 31 s)

-- ---- the days of each form

-- the days of the month from a first to a last
abbrev pub from_to : ℕ → ℕ → FieldSet
from_to first last = unmarked (set_of units.days_of_month (λ d. nat_le first d && nat_le d last))

abbrev pub on_days : FieldSet → List ℕ → Sets → List Sets
on_days days week s = record s { days_of_month = days; days_of_week = week } ∷ []

-- the schedule of the day that k more days follow in a month of this length, if there is one
abbrev pub before_end : ℕ → ℕ → Sets → List Sets
before_end k length s = if nat_lt k length then on_days (from_to (length - k) (length - k)) s.days_of_week s else []

-- the schedule of the day of the week w among the last seven days of a month of this length
abbrev pub in_last_week : ℕ → ℕ → Sets → List Sets
in_last_week w length s = on_days (from_to (length - 6) length) (w ∷ []) s

-- Monday to Friday
abbrev pub workdays : List ℕ
workdays = set_of units.days_of_week (λ w. nat_le 2 w && nat_le w 6)

-- the schedule of the n-th day itself, if it is a workday
abbrev pub on_day : ℕ → Sets → List Sets
on_day n s = on_days (from_to n n) workdays s

-- The Monday after the n-th day: the next day, if the n-th is a Sunday. For the 1st it may also be
-- the 3rd, if the 1st is a Saturday. The last day has none.
abbrev pub on_monday : ℕ → ℕ → Sets → List Sets
on_monday n length s = if n == length then [] else on_days (from_to (n + 1) (if n == 1 then 3 else n + 1)) (2 ∷ []) s

-- The Friday before the n-th day: the day before, if the n-th is a Saturday. For the last day it
-- may also be two days before, if that is a Sunday. The 1st has none.
abbrev pub on_friday : ℕ → ℕ → Sets → List Sets
on_friday n length s = if n == 1 then [] else on_days (from_to (if n == length then n - 2 else n - 1) (n - 1)) (6 ∷ []) s

-- the schedules of the workday nearest to the n-th, in months of this length that have that day
abbrev pub near_day : ℕ → ℕ → Sets → List Sets
near_day n length s =
    if nat_lt 0 n && nat_le n length then on_day n s ++ (on_monday n length s ++ on_friday n length s) else []

-- the schedules of a form, where s is the schedule of the other fields, with all days
abbrev pub schedules_of : Days → Sets → List Sets
schedules_of (dates days) s = on_days days s.days_of_week s
schedules_of (before_last k) s = if k == 0 then on_days (with_mark [] true) s.days_of_week s else by_length (before_end k) s
schedules_of (nearest_workday n) s = by_length (near_day n) s
schedules_of (last_workday k) s = by_length (λ length. near_day (length - k) length) s
schedules_of (weekdays week) s = on_days s.days_of_month week s
schedules_of (last_weekday w) s = by_length (in_last_week w) s
schedules_of (nth_weekday w n) s = on_days (from_to (7 * n - 6) (7 * n)) (w ∷ []) s
