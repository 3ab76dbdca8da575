-- When the five fields of a crontab's expression say to run, in their own numbers.
use Rattle.std.specs.Prelude.{◌≡◌, ◌<◌, ◌==◌, ◌&&◌, ◌||◌, ℕ, Bool, List, if◌then◌else◌}
use Rattle.std.specs.List.{list_any}
use Rattle.jiff_core.specs.declared.civil.date.Date.{Date}
use Rattle.jiff_core.specs.declared.civil.time.Time.{Time}
use Rattle.jiff_core.specs.declared.civil.datetime.DateTime.{DateTime}
use Rattle.cron_units.specs.Sets.{Sets}
use Rattle.cron_moments.specs.Calendar.{weekday_number}
use Rattle.cron_moments.specs.Civil.{civil, seconds_in_range}
use Rattle.cron_time.specs.Matches.{matches}
use Rattle.cron_crontab.specs.Crontab.{Five, lies_in, on_weekday, schedules_of}

-- the date matches: in both fields of days if one of them begins with a star, else in one of the
-- two
abbrev pub on_day : Five → Date → Bool
on_day f d =
    if f.day_of_month.star || f.day_of_week.star then lies_in f.day_of_month d.day && on_weekday f.day_of_week (weekday_number d)
    else lies_in f.day_of_month d.day || on_weekday f.day_of_week (weekday_number d)

-- the hour and the minute match, and the second is 0
abbrev pub at_time : Five → Time → Bool
at_time f t = lies_in f.hour t.hour && lies_in f.minute t.minute && t.second == 0

-- the five fields say to run at this civil datetime
abbrev pub runs_at : Five → DateTime → Bool
runs_at f dt = lies_in f.month dt.date.month && on_day f dt.date && at_time f dt.time

-- a civil datetime matches one of some schedules
abbrev pub matches_one : List Sets → DateTime → Bool
matches_one ss dt = list_any (λ s. matches s dt) ss

-- The schedules of five fields match exactly the civil seconds when the fields say to run.
abbrev pub FiveFieldsRun : Type 0
FiveFieldsRun = (f : Five) (c : ℕ) → c < seconds_in_range → matches_one (schedules_of f) (civil c) ≡ runs_at f (civil c)
