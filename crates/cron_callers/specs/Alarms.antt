-- Alarms on a clock at one offset.
use Rattle.std.specs.Prelude.{◌≡◌, ℤ, pos, ◌*ℤ◌, ◌≤ℤ◌, Option, MatchOption}
use Rattle.jiff_core.specs.declared.Timestamp.{Timestamp}
use Rattle.cron.specs.Words.{Sets, IsAfter, Shows}

-- the instant, in nanoseconds, is the least whole second after the instant t at which a clock with
-- this offset shows a match
pub record IsLeastMatchAfter (s : Sets) (offset t nanosecond : ℤ) : Type 0 where
  pub second : ℤ
  pub is : nanosecond ≡ second *ℤ pos 1_000_000_000
  pub after : IsAfter t second
  pub shows : Shows s offset second
  pub least : (n : ℤ) → IsAfter t n → Shows s offset n → second ≤ℤ n

-- the alarm is the least instant after t at which the clock shows a match, and `None` exactly where there is none
abbrev pub IsAlarmAfter : Sets → ℤ → ℤ → Option Timestamp → Type 0
IsAlarmAfter s offset t alarm =
    MatchOption alarm ((n : ℤ) → IsAfter t n → ¬ (Shows s offset n)) (λ instant. IsLeastMatchAfter s offset t instant.nanosecond)
