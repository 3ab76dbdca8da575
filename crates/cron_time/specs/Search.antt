-- The nearest civil second that stands on a timeline, and what a search finds of it.
pub mod Counts
pub mod Surveys
pub mod Times
pub mod Inner
use Rattle.std.specs.Prelude.{◌≡◌, ℕ, ℤ, Bool, false, List, Option, MatchOption}
use Rattle.jiff_tz.specs.declared.timezone.TimeZone.{TimeZone}
use Rattle.cron_units.specs.declared.way.Way.{Way}
use Rattle.cron_units.specs.Nearest.{LiesFrom, IsNearestAt}
use Rattle.cron_moments.specs.Readings.{Reading}
use Rattle.cron_units.specs.Sets.{Sets}
use Rattle.cron_time.specs.Seconds as seconds
use Rattle.cron_time.specs.Timeline.{seconds_of}

-- the items of the timeline with this civil second: its readings if it matches
abbrev pub items_of : Sets → TimeZone → ℕ → List Reading
items_of s z c = seconds.items_of (seconds_of s) z c

-- the civil second stands on the timeline: it is in range, matches and has a reading
abbrev pub stands : Sets → TimeZone → ℕ → Bool
stands s z c = seconds.stands (seconds_of s) z c

-- what a search found is the nearest civil second that stands, from a number on: these are all its items
pub record IsFoundAt (way : Way) (s : Sets) (z : TimeZone) (start : ℤ) (found : List Reading) : Type 0 where
  pub second : ℕ
  pub nearest : IsNearestAt way (stands s z) start second
  pub items : items_of s z second ≡ found

-- what a search found from a number on: nothing exactly if no civil second there stands, and else
-- all items of the nearest
abbrev pub IsFound : Way → Sets → TimeZone → ℤ → Option (List Reading) → Type 0
IsFound way s z start found =
    MatchOption found ((k : ℕ) → LiesFrom way start k → stands s z k ≡ false) (IsFoundAt way s z start)
