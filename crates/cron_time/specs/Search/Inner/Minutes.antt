-- The minutes of a day, by their numbers there, and the times of a day past one.
use Rattle.std.specs.Prelude.{◌≡◌, ℕ, ◌/◌, ◌%◌, Bool, ◌&&◌, Option, MatchOption}
use Rattle.cron_units.specs.declared.way.Way.{Way}
use Rattle.cron_units.specs.Nearest.{IsNearestAt}
use Rattle.cron_units.specs.Sets.{Sets}
use Rattle.cron_units.specs.Units.{contains}
use Rattle.cron_time.specs.Search.Inner.Blocks.{AllFail}
use Rattle.cron_time.specs.Search.Inner.Numbers.{beyond, matches_second}

-- hour and minute of a minute of the day lie in their sets
abbrev pub matches_minute : Sets → ℕ → Bool
matches_minute s n = contains s.hours (n / 60) && contains s.minutes (n % 60)

-- a civil second of the same day as another, at the nearest time past that one's that lies in the sets
pub record IsLaterInDay (way : Way) (s : Sets) (second next : ℕ) : Type 0 where
  pub day : next / 86_400 ≡ second / 86_400
  pub nearest : IsNearestAt way (matches_second s) (beyond way (second % 86_400)) (next % 86_400)

-- the nearest civil second of the same day, past another, whose time lies in the sets; `None`
-- exactly if there is none
abbrev pub IsNextInDay : Way → Sets → ℕ → Option ℕ → Type 0
IsNextInDay way s second next = MatchOption next (AllFail way (matches_second s) (beyond way (second % 86_400))) (IsLaterInDay way s second)
