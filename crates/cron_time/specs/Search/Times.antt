-- Times of day.
use Rattle.std.specs.Prelude.{◌≡◌, ◌↔◌, ◌⊎◌, ℕ, ◌<◌, true, List, map, Option, MatchOption}
use Rattle.std.specs.List.{flat_map, Contains}
use Rattle.jiff_core.specs.declared.civil.time.Time.{Time}
use Rattle.cron_units.specs.declared.way.Way.{Way}
use Rattle.cron_units.specs.declared.way.Way.TheVariants.{Ahead, Back}
use Rattle.cron_units.specs.Sets.{Sets}
use Rattle.cron_time.specs.Matches.{matches_time}

-- an hour, a minute and a second
pub record TimeOfDay : Type 0 where
  pub hour : ℕ
  pub minute : ℕ
  pub second : ℕ

-- the times of day whose parts lie in their sets, in the order of hour, then minute, then second
unfoldable pub times_of_day : Sets → List TimeOfDay
times_of_day s =
    flat_map (λ h. flat_map (λ m. map (λ sec. record { hour = h; minute = m; second = sec }) s.seconds) s.minutes) s.hours

-- a comes before b, by hour, then minute, then second
abbrev pub IsBefore : TimeOfDay → TimeOfDay → Type 0
IsBefore a b =
    (a.hour < b.hour)
    ⊎ ((a.hour ≡ b.hour)
    × ((a.minute < b.minute) ⊎ ((a.minute ≡ b.minute) × (a.second < b.second))))

-- t is the start or lies past it, in this direction
abbrev pub LiesFromTime : Way → TimeOfDay → TimeOfDay → Type 0
LiesFromTime Ahead start t = ¬ (IsBefore t start)
LiesFromTime Back start t = ¬ (IsBefore start t)

-- `found` is the nearest of the sets' times of day from the start on
pub record IsNearestTimeAt (way : Way) (s : Sets) (start found : TimeOfDay) : Type 0 where
  pub among : Contains (times_of_day s) found
  pub lies : LiesFromTime way start found
  pub nearest : (t : TimeOfDay) → Contains (times_of_day s) t → LiesFromTime way start t → LiesFromTime way found t

-- the nearest of the sets' times of day from the start on: the least ahead, the greatest back;
-- `None` exactly if none lies there
abbrev pub IsNearestTime : Way → Sets → TimeOfDay → Option TimeOfDay → Type 0
IsNearestTime way s start found =
    MatchOption found ((t : TimeOfDay) → Contains (times_of_day s) t → ¬ (LiesFromTime way start t)) (IsNearestTimeAt way s start)

-- the hour, the minute and the second of a civil time
abbrev pub time_of_day : Time → TimeOfDay
time_of_day t = record { hour = t.hour; minute = t.minute; second = t.second }

-- three numbers as a time of day
abbrev pub time_of_parts : ℕ × ℕ × ℕ → TimeOfDay
time_of_parts t = record { hour = t.0; minute = t.1; second = t.2 }

-- a civil time is one of the times of day exactly if it matches
abbrev pub TimesOfDayMatch : Type 0
TimesOfDayMatch = (s : Sets) (t : Time) → Contains (times_of_day s) (time_of_day t) ↔ (matches_time s t ≡ true)
