-- Forms of days of Quartz, each of which several schedules mean together.
use Rattle.std.specs.Prelude.{ℕ, ◌==◌, ◌≤◌, ⊤, Bool, true, false, ◌&&◌, List, [], ◌∷◌, Option, Some, None, length, if◌then◌else◌}
use Rattle.std.specs.List.{list_any}
use Rattle.std.specs.Str.{bytes_eq}
use Rattle.cron_quartz.specs.Days.{Days, last_weekday, last_workday, nearest_workday, schedules_of}
use Rattle.cron_units.specs.Sets.{Sets}
use Rattle.cron_units.specs.Units.{contains, set_of, unmarked, whole}
use Rattle.cron_units.specs.Units as units
use Rattle.cron_words.specs.Progressions.{first}
use Rattle.cron_words.specs.Schedules.{is_one, only}
use Rattle.cron_words.specs.declared.shapes.Shape.{Shape}
use Rattle.cron_words.specs.declared.shapes.Shape.TheVariants.{LastWeekday, NearestWorkday, LastWorkday}

abbrev pub days_of : Shape → Days
days_of (LastWeekday w) = last_weekday w
days_of (NearestWorkday n) = nearest_workday n
days_of LastWorkday = last_workday 0

-- a day of the week, and a day of the month
abbrev pub IsShape : Shape → Type 0
IsShape (LastWeekday w) = (1 ≤ w) × (w ≤ 7)
IsShape (NearestWorkday n) = (1 ≤ n) × (n ≤ 31)
IsShape LastWorkday = ⊤

-- ---- schedules with the same sets

abbrev pub same_mark : Bool → Bool → Bool
same_mark true mark = mark
same_mark false mark = if mark then false else true

abbrev pub are_same : Sets → Sets → Bool
are_same s t =
    bytes_eq s.seconds t.seconds && (bytes_eq s.minutes t.minutes && (bytes_eq s.hours t.hours
    && (bytes_eq s.days_of_month.ordinals t.days_of_month.ordinals && (same_mark s.days_of_month.last_day t.days_of_month.last_day
    && (bytes_eq s.months t.months && (bytes_eq s.days_of_week t.days_of_week && bytes_eq s.years t.years))))))

abbrev pub all_same : List Sets → List Sets → Bool
all_same [] [] = true
all_same (s ∷ ss) (t ∷ ts) = are_same s t && all_same ss ts
all_same _ _ = false

-- ---- the shape of schedules

-- the months and the years of any of the schedules
abbrev pub months_of_any : List Sets → List ℕ
months_of_any ss = set_of units.months (λ m. list_any (λ s. contains s.months m) ss)

abbrev pub years_of_any : List Sets → List ℕ
years_of_any ss = set_of units.years (λ y. list_any (λ s. contains s.years y) ss)

-- the times of s, all days, and the months and years of any of the schedules
abbrev pub base : Sets → List Sets → Sets
base s ss = record {
  seconds = s.seconds;
  minutes = s.minutes;
  hours = s.hours;
  days_of_month = unmarked (whole units.days_of_month);
  months = months_of_any ss;
  days_of_week = whole units.days_of_week;
  years = years_of_any ss;
}

-- the schedules, of which s is the first, are those of a form
unfoldable pub have_shape : Shape → Sets → List Sets → Bool
have_shape shape s ss = all_same (schedules_of (days_of shape) (base s ss)) ss

abbrev pub if_shaped : Bool → Shape → Option Shape → Option Shape
if_shaped fits shape other = if fits then Some shape else other

-- a day of the week, or the days 1 to 31 of the month, of the first schedule
abbrev pub last_weekday_of : Sets → List Sets → Option Shape
last_weekday_of s ss = if_shaped (have_shape (LastWeekday (only s.days_of_week)) s ss) (LastWeekday (only s.days_of_week)) None

abbrev pub workday_of : Sets → List Sets → Option Shape
workday_of s ss =
    if length s.days_of_month.ordinals == 0 then None
    else if_shaped (have_shape (NearestWorkday (first s.days_of_month.ordinals)) s ss) (NearestWorkday (first s.days_of_month.ordinals)) None

-- the form of schedules of which s is the first
abbrev pub shape_from : Sets → List Sets → Option Shape
shape_from s ss =
    if is_one s.days_of_week then last_weekday_of s ss else if_shaped (have_shape LastWorkday s ss) LastWorkday (workday_of s ss)

-- the form of days that schedules mean together
abbrev pub shape_of : List Sets → Option Shape
shape_of [] = None
shape_of (s ∷ ss) = shape_from s (s ∷ ss)
