-- What the pieces of a line mean to systemd, which the writer appends one after another. In each
-- record `piece` is a text, and `read` says how systemd reads it.
use Rattle.std.specs.Prelude.{◌≡◌, ◌≤◌, ◌<◌, ◌+◌, ◌-◌, ◌%◌, ◌==◌, ℕ, pos, Bool, true, false, ◌&&◌, List, [], ◌∷◌, ◌++◌, Some, IsSome, length, nat_le, nat_lt, if◌then◌else◌}
use Rattle.std.specs.List.{AllByRecursion, flat_map, list_all, list_any}
use Rattle.jiff_core.specs.Calendar.{days_in_month}
use Rattle.jiff_core.specs.declared.civil.date.Date.{Date}
use Rattle.jiff_core.specs.declared.civil.datetime.DateTime.{DateTime}
use Rattle.jiff_core.specs.declared.civil.time.Time.{Time}
use Rattle.cron_moments.specs.Calendar.{weekday_number}
use Rattle.cron_moments.specs.Civil.{civil, seconds_in_range}
use Rattle.cron_units.specs.Sets.{Sets}
use Rattle.cron_units.specs.Units.{TimeUnit, contains}
use Rattle.cron_time.specs.Matches.{contains_year, matches_time}
use Rattle.cron_oncalendar.specs.Calendars.{Component, Dates, Times, admits, calendar_by, calendar_in, calendar_of, component_of, dates_match, dates_of, line_matches, parts, times_match, times_of}

-- The level at which a byte separates: dots within a range are 1, commas between ranges 2, and so
-- on to line feeds between lines, 6. Other bytes separate nothing and are 0.
unfoldable pub level : ℕ → ℕ
level byte =
    if byte == 46 then 1 else if byte == 44 then 2 else if byte == 58 then 3 else if byte == 126 then 3 else if byte == 45 then 4
    else if byte == 32 then 5 else if byte == 10 then 6 else 0

-- whether the level of each byte of the piece is below k, so that the piece isn't split where such
-- bytes separate
abbrev pub is_under : ℕ → List ℕ → Bool
is_under k piece = list_all (λ byte. nat_lt (level byte) k) piece

-- whether a component can list the numbers of a unit: there are at most 240
abbrev pub is_listable : TimeUnit → Bool
is_listable u = nat_le u.least u.greatest && nat_le (u.greatest + 1 - u.least) 240 && nat_lt u.greatest 4294967296

-- systemd reads the piece as a component that admits exactly these numbers of the unit
pub record IsComponent (u : TimeUnit) (xs piece : List ℕ) : Type 0 where
  pub says : Component
  pub under : is_under 3 piece ≡ true
  pub read : (most : ℕ) → u.greatest ≤ most → component_of u.least most piece ≡ Some says
  pub same : (x : ℕ) → u.least ≤ x → x ≤ u.greatest → admits says x ≡ contains xs x

-- The piece is days of the week with a space after them, or nothing for all. Monday is 1 to
-- systemd, and 2 among the numbers `xs`.
pub record AreWeekdays (xs piece : List ℕ) : Type 0 where
  pub says : Component
  pub under : is_under 6 piece ≡ true
  pub read : (rest date time : List ℕ) → parts 32 rest ≡ date ∷ time ∷ []
      → calendar_in (parts 32 (piece ++ rest)) ≡ calendar_by (Some says) (dates_of (parts 45 date)) (times_of (parts 58 time))
  pub same : (n : ℕ) → 1 ≤ n → n ≤ 7 → admits says n ≡ contains xs (n % 7 + 1)

-- each set has a number, except perhaps the days of the month
pub record IsWhole (s : Sets) : Type 0 where
  pub seconds : s.seconds ≡ [] → ⊥
  pub minutes : s.minutes ≡ [] → ⊥
  pub hours : s.hours ≡ [] → ⊥
  pub months : s.months ≡ [] → ⊥
  pub days_of_week : s.days_of_week ≡ [] → ⊥
  pub years : s.years ≡ [] → ⊥

-- the date's year is one of 1970 to 2100
pub record IsInYears (d : Date) : Type 0 where
  pub number : ℕ
  pub is : d.year ≡ pos number
  pub low : 1970 ≤ number
  pub high : number ≤ 2100

-- whether the date is the last day of its month if the flag is true, and else a day that the set
-- has by number
abbrev pub is_day : Sets → Bool → Date → Bool
is_day s false d = contains s.days_of_month.ordinals d.day
is_day s true d = d.day == days_in_month d.year d.month

abbrev pub is_date : Sets → Bool → Date → Bool
is_date s last_day d = contains_year s.years d.year && contains s.months d.month && is_day s last_day d

-- systemd reads the piece as dates that are those of the sets, for the years 1970 to 2100
pub record AreDates (s : Sets) (last_day : Bool) (piece : List ℕ) : Type 0 where
  pub says : Dates
  pub under : is_under 5 piece ≡ true
  pub read : dates_of (parts 45 piece) ≡ Some says
  pub same : (d : Date) → IsInYears d → dates_match says d ≡ is_date s last_day d

-- systemd reads the piece as times of day, which are those of the sets
pub record AreTimes (s : Sets) (piece : List ℕ) : Type 0 where
  pub says : Times
  pub under : is_under 4 piece ≡ true
  pub read : times_of (parts 58 piece) ≡ Some says
  pub same : (t : Time) → times_match says t ≡ matches_time s t

-- whether a schedule matches, on the last days of months if the flag is true, and else on days by
-- number
abbrev pub matches_by : Sets → Bool → DateTime → Bool
matches_by s last_day dt =
    (is_date s last_day dt.date && contains s.days_of_week (weekday_number dt.date)) && matches_time s dt.time

-- whether a schedule matches on the last days of months, if they are marked
abbrev pub matches_last : Sets → DateTime → Bool
matches_last s dt = s.days_of_month.last_day && matches_by s true dt

-- the line is one that systemd reads
pub record IsLine (line : List ℕ) : Type 0 where
  pub under : is_under 6 line ≡ true
  pub read : IsSome (calendar_of line)

-- The piece is `number` lines, each with `after` and a line feed after it. A civil second of the
-- range matches one of them exactly if the test is true of it.
pub record AreLines (after : List ℕ) (number : ℕ) (test : DateTime → Bool) (piece : List ℕ) : Type 0 where
  pub lines : List (List ℕ)
  pub counted : length lines ≡ number
  pub ended : piece ≡ flat_map (λ line. line ++ (after ++ 10 ∷ [])) lines
  pub each : AllByRecursion IsLine lines
  pub same : (c : ℕ) → c < seconds_in_range → list_any (line_matches (civil c)) lines ≡ test (civil c)
