-- The civil seconds that a schedule matches and a union doesn't.
use Rattle.std.specs.Prelude.{◌≡◌, ℕ, ◌<◌, Bool, true, false, ◌&&◌, not, List, Option, Some, None}
use Rattle.jiff_core.specs.Calendar.{days_in_month}
use Rattle.jiff_core.specs.declared.civil.datetime.DateTime.{DateTime}
use Rattle.cron_units.specs.Sets.{Sets}
use Rattle.cron_time.specs.Matches.{is_match, matches}
use Rattle.cron_unions.specs.Nearest.{is_match_any}

-- all that the schedule matches lies in months of this length
abbrev pub AreInMonthsOf : ℕ → Sets → Type 0
AreInMonthsOf length s = (dt : DateTime) → matches s dt ≡ true → days_in_month dt.date.year dt.date.month ≡ length

-- the schedule matches no civil second before this one, or none at all
abbrev pub NoneBefore : Sets → Option ℕ → Type 0
NoneBefore s None = (c : ℕ) → is_match s c ≡ false
NoneBefore s (Some n) = (c : ℕ) → c < n → is_match s c ≡ false

-- the schedule matches a civil second, and the union doesn't
abbrev pub matches_without : Sets → List Sets → ℕ → Bool
matches_without s ts c = is_match s c && not (is_match_any ts c)

-- a schedule matches a civil second, and neither another schedule nor a union does
abbrev pub matches_outside : Sets → Sets → List Sets → ℕ → Bool
matches_outside s t ts c = (is_match s c && not (is_match t c)) && not (is_match_any ts c)

-- one union matches a civil second, and the other doesn't
abbrev pub matches_alone : List Sets → List Sets → ℕ → Bool
matches_alone ss ts c = is_match_any ss c && not (is_match_any ts c)
