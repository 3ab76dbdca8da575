-- The civil datetimes that lie in the seven sets of a schedule.
use Rattle.std.specs.Prelude.{◌≡◌, ℕ, ◌<◌, ◌==◌, ℤ, pos, negsuc, Bool, true, false, ◌&&◌, ◌||◌, nat_lt, List}
use Rattle.jiff_core.specs.declared.civil.date.Date.{Date}
use Rattle.jiff_core.specs.declared.civil.time.Time.{Time}
use Rattle.jiff_core.specs.declared.civil.datetime.DateTime.{DateTime}
use Rattle.jiff_core.specs.Calendar.{days_in_month}
use Rattle.cron_moments.specs.Calendar.{weekday_number}
use Rattle.cron_moments.specs.Civil.{civil, days_in_range, seconds_in_range}
use Rattle.cron_moments.specs.CivilDates.{date_numbered}
use Rattle.cron_units.specs.Sets.{Sets}
use Rattle.cron_units.specs.Units.{FieldSet, contains}

-- the list has this year; no year before 0 is a member
abbrev pub contains_year : List ℕ → ℤ → Bool
contains_year xs (pos y) = contains xs y
contains_year xs (negsuc y) = false

-- a day of a month of this length lies in the set: by its number, or as the last day where that is marked
abbrev pub has_day : FieldSet → ℕ → ℕ → Bool
has_day days length day = contains days.ordinals day || (days.last_day && day == length)

-- the day of the month lies in its set
abbrev pub matches_day_of_month : Sets → Date → Bool
matches_day_of_month s d = has_day s.days_of_month (days_in_month d.year d.month) d.day

-- a candidate: year, month and day of the month lie in their sets
abbrev pub is_candidate : Sets → Date → Bool
is_candidate s d = contains_year s.years d.year && contains s.months d.month && matches_day_of_month s d

-- the date matches: it is a candidate, and its day of the week lies in its set
abbrev pub matches_date : Sets → Date → Bool
matches_date s d = is_candidate s d && contains s.days_of_week (weekday_number d)

-- each date of the range matches
abbrev pub IncludesEachDate : Sets → Type 0
IncludesEachDate s = (day : ℕ) → day < days_in_range → matches_date s (date_numbered day).0 ≡ true

-- hour, minute and second lie in their sets
abbrev pub matches_time : Sets → Time → Bool
matches_time s t = contains s.hours t.hour && contains s.minutes t.minute && contains s.seconds t.second

-- a civil datetime matches: all seven parts lie in their sets
unfoldable pub matches : Sets → DateTime → Bool
matches s dt = matches_date s dt.date && matches_time s dt.time

-- a civil second of the range that matches, by its number
abbrev pub is_match : Sets → ℕ → Bool
is_match s c = nat_lt c seconds_in_range && matches s (civil c)
