-- What holds of rules of days and of what is moved by them.
use Rattle.std.specs.Prelude.{◌≡◌, ◌↔◌, ◌⊎◌, ℕ, ◌+◌, ◌*◌, ◌/◌, ◌%◌, ◌<◌, pos, Bool, true}
use Rattle.cron_units.specs.declared.way.Way.{Way}
use Rattle.cron_units.specs.Nearest.{IsNearestAt}
use Rattle.cron_moments.specs.Calendar.{weekday_number}
use Rattle.cron_moments.specs.Civil.{days_in_range}
use Rattle.cron_moments.specs.CivilDates.{date_numbered}
use Rattle.cron_time.specs.Seconds.{Seconds, is_match}
use Rattle.cron_days.specs.Days.{is_day}
use Rattle.cron_days.specs.Moved.{moved}
use Rattle.cron_days.specs.Rules.{is_steps_apart, week_of}

-- from one day to the next a new week begins exactly if the next one is a Monday, the second day from Sunday on
abbrev pub WeeksBeginOnMonday : Type 0
WeeksBeginOnMonday =
    (n : ℕ) → n + 1 < days_in_range → (week_of (n + 1) ≡ week_of n + 1) ↔ (weekday_number (date_numbered (n + 1)).0 ≡ 2)

-- a number of steps leads from one of two numbers to the other
abbrev pub StepsGoBothWays : Type 0
StepsGoBothWays =
    (step a b : ℕ) → 0 < step → (is_steps_apart step a b ≡ true) ↔ ((count : ℕ) × ((b ≡ a + count * step) ⊎ (a ≡ b + count * step)))

-- what is moved lies on allowed days
abbrev pub MovedLieOnAllowedDays : Type 0
MovedLieOnAllowedDays = (way : Way) (allows : ℕ → Bool) (s : Seconds) (c : ℕ) → is_match (moved way allows s) c ≡ true → allows (c / 86_400) ≡ true

-- what lies on allowed days stays
abbrev pub AllowedDaysStay : Type 0
AllowedDaysStay =
    (way : Way) (allows : ℕ → Bool) (s : Seconds) (c : ℕ) → is_match s c ≡ true → allows (c / 86_400) ≡ true → is_match (moved way allows s) c ≡ true

-- what lies on a day is moved to the nearest allowed one, if there is one, at the same time of day
abbrev pub NoneIsLost : Type 0
NoneIsLost =
    (way : Way) (allows : ℕ → Bool) (s : Seconds) (c target : ℕ)
    → is_match s c ≡ true
    → IsNearestAt way (is_day allows) (pos (c / 86_400)) target
    → is_match (moved way allows s) (target * 86_400 + c % 86_400) ≡ true
