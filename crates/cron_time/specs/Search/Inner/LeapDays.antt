-- Sets that only 29 February can match.
use Rattle.std.specs.Prelude.{◌≡◌, ℕ, ◌<◌, true, false}
use Rattle.cron_units.specs.Sets.{Sets}
use Rattle.cron_units.specs.Units.{contains}

-- no month but February, and no day from 1 to 28, nor the last day of the month
pub record WantsLeapDays (s : Sets) : Type 0 where
  pub months : (m : ℕ) → contains s.months m ≡ true → m ≡ 2
  pub days : (d : ℕ) → d < 29 → contains s.days_of_month.ordinals d ≡ false
  pub unmarked : s.days_of_month.last_day ≡ false
