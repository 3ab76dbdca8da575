-- The first civil second of the range at which something holds of two unions of schedules.
use Rattle.std.specs.Prelude.{◌≡◌, ℕ, ◌<◌, Bool, true, false, ◌&&◌, not, List, Option, MatchOption}
use Rattle.cron_units.specs.Sets.{Sets}
use Rattle.cron_moments.specs.Civil.{civil, seconds_in_range}
use Rattle.cron_unions.specs.Unions.{matches_any}

-- a civil second of the range passes the test, and none before it does
pub record IsFirstAt (test : ℕ → Bool) (second : ℕ) : Type 0 where
  pub in_range : second < seconds_in_range
  pub passes : test second ≡ true
  pub first : (c : ℕ) → c < second → test c ≡ false

-- the first civil second of the range that passes the test; `None` exactly if none passes it
abbrev pub IsFirst : (ℕ → Bool) → Option ℕ → Type 0
IsFirst test found = MatchOption found ((c : ℕ) → c < seconds_in_range → test c ≡ false) (IsFirstAt test)

-- both unions match the civil second
abbrev pub is_common : List Sets → List Sets → ℕ → Bool
is_common ss ts c = matches_any ss (civil c) && matches_any ts (civil c)

-- the first civil second of the range that both unions match
abbrev pub IsFirstCommon : List Sets → List Sets → Option ℕ → Type 0
IsFirstCommon ss ts = IsFirst (is_common ss ts)

-- one of two is true, and the other isn't
abbrev pub differ : Bool → Bool → Bool
differ true b = not b
differ false b = b

-- one of the unions matches the civil second, and the other doesn't
abbrev pub is_difference : List Sets → List Sets → ℕ → Bool
is_difference ss ts c = differ (matches_any ss (civil c)) (matches_any ts (civil c))

-- the first civil second of the range that exactly one of the unions matches
abbrev pub IsFirstDifference : List Sets → List Sets → Option ℕ → Type 0
IsFirstDifference ss ts = IsFirst (is_difference ss ts)
