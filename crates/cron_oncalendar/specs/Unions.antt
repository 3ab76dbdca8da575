-- The lines of a union of schedules, and what they match.
use Rattle.std.specs.Prelude.{◌≡◌, ◌↔◌, ℕ, ◌<◌, ◌+◌, ◌==◌, ℤ, Bool, false, List, [], ◌∷◌, ◌++◌, Option, IsSome, length, map, sum_by, if◌then◌else◌}
use Rattle.std.specs.List.{AllByRecursion, list_any}
use Rattle.jiff_tz.specs.declared.timezone.TimeZone.{TimeZone}
use Rattle.cron_moments.specs.Civil.{civil, seconds_in_range}
use Rattle.cron_units.specs.Sets.{Sets}
use Rattle.cron_time.specs.Seconds.{matching_seconds}
use Rattle.cron_time.specs.Timeline.{seconds_of}
use Rattle.cron_unions.specs.Unions.{matches_any}
use Rattle.cron_oncalendar.specs.Calendars.{parts, calendar_of, line_matches}
use Rattle.cron_oncalendar.specs.Elapses.{ElapsesAt, IsShownAt}
use Rattle.cron_oncalendar.specs.Zones.{zone_text}

-- whether no civil second of 1970 to 2100 matches
abbrev pub never_fires : Sets → Bool
never_fires s = length (matching_seconds (seconds_of s)) == 0

-- how many lines a schedule has for days of the month by number: one if there are any, else none
abbrev pub numbered_lines : Sets → ℕ
numbered_lines s = if length s.days_of_month.ordinals == 0 then 0 else 1

-- how many lines a schedule has for the last day of the month: one if it is marked, else none
abbrev pub last_lines : Sets → ℕ
last_lines s = if s.days_of_month.last_day then 1 else 0

-- how many lines a schedule has: none if it never fires
abbrev pub line_count : Sets → ℕ
line_count s = if never_fires s then 0 else numbered_lines s + last_lines s

-- The text is the lines of each schedule, each with the zone's name, if one is given, and a line
-- feed. systemd reads each of them. A civil second of the range matches one of them exactly if it
-- matches one of the schedules. In each zone they elapse exactly when a due fire comes whose time
-- the clock shows.
pub record SaysUnion (ss : List Sets) (zone : Option (List ℕ)) (text : List ℕ) : Type 0 where
  pub lines : List (List ℕ)
  pub some : lines ≡ [] → ⊥
  pub counted : length lines ≡ sum_by line_count ss
  pub ended : parts 10 text ≡ map (λ line. line ++ zone_text zone) lines ++ [] ∷ []
  pub read : AllByRecursion (λ line. IsSome (calendar_of line)) lines
  pub same : (c : ℕ) → c < seconds_in_range → list_any (line_matches (civil c)) lines ≡ matches_any ss (civil c)
  pub elapses : (z : TimeZone) (n : ℤ) → ElapsesAt lines z n ↔ IsShownAt ss z n

-- no civil second of 1970 to 2100 matches one of the schedules
abbrev pub IsNever : List Sets → Type 0
IsNever ss = (c : ℕ) → c < seconds_in_range → matches_any ss (civil c) ≡ false
