-- A schedule whose sets have all members of another's.
use Rattle.std.specs.Prelude.{◌≡◌, ℕ, true, List}
use Rattle.cron_units.specs.Sets.{Sets}
use Rattle.cron_units.specs.Units.{contains}

-- each member of the second set is one of the first
abbrev pub HasAll : List ℕ → List ℕ → Type 0
HasAll ys xs = (x : ℕ) → contains xs x ≡ true → contains ys x ≡ true

-- each civil datetime that matches the second schedule matches the first one too, since this holds of each unit
pub record Covers (t s : Sets) : Type 0 where
  pub seconds : HasAll t.seconds s.seconds
  pub minutes : HasAll t.minutes s.minutes
  pub hours : HasAll t.hours s.hours
  pub days : HasAll t.days_of_month.ordinals s.days_of_month.ordinals
  pub last_day : s.days_of_month.last_day ≡ true → t.days_of_month.last_day ≡ true
  pub months : HasAll t.months s.months
  pub weekdays : HasAll t.days_of_week s.days_of_week
  pub years : HasAll t.years s.years
