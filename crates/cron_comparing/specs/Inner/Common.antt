-- The civil seconds that both of two schedules match, by the lengths of months.
use Rattle.std.specs.Prelude.{ℕ, pos, Bool, ◌&&◌, List, Option, nat_lt}
use Rattle.jiff_core.specs.Calendar.{days_in_month}
use Rattle.cron_units.specs.Nearest.{IsNearest}
use Rattle.cron_units.specs.Sets.{Sets}
use Rattle.cron_units.specs.declared.way.Way.TheVariants.{Ahead}
use Rattle.cron_moments.specs.Civil.{civil}
use Rattle.cron_time.specs.Matches.{is_match}
use Rattle.cron_unions.specs.Nearest.{is_match_any}

-- the least number that passes a test
abbrev pub IsLeast : (ℕ → Bool) → Option ℕ → Type 0
IsLeast test = IsNearest Ahead test (pos 0)

-- how long the month of a civil second is
abbrev pub month_length : ℕ → ℕ
month_length c = days_in_month (civil c).date.year (civil c).date.month

-- both schedules match a civil second
abbrev pub both_match : Sets → Sets → ℕ → Bool
both_match s t c = is_match s c && is_match t c

-- a civil second passes a test, and its month is shorter than this
abbrev pub in_shorter : (ℕ → Bool) → ℕ → ℕ → Bool
in_shorter test length c = test c && nat_lt (month_length c) length

-- a schedule matches a civil second, and so does a union
abbrev pub matches_with : Sets → List Sets → ℕ → Bool
matches_with s ts c = is_match s c && is_match_any ts c

abbrev pub both_match_any : List Sets → List Sets → ℕ → Bool
both_match_any ss ts c = is_match_any ss c && is_match_any ts c
