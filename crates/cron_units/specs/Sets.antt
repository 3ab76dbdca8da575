-- The seven sets of a schedule.
use Rattle.std.specs.Prelude.{◌≡◌, ℕ, true, List, []}
use Rattle.cron_units.specs.Units.{TimeUnit, FieldSet, IsSet}
use Rattle.cron_units.specs.Units as units

-- Each set is the list of its members, in ascending order; the days of the month have the mark of the last day besides.
pub record Sets : Type 0 where
  pub seconds : List ℕ
  pub minutes : List ℕ
  pub hours : List ℕ
  pub days_of_month : FieldSet
  pub months : List ℕ
  pub days_of_week : List ℕ
  pub years : List ℕ

-- the list is a set of the unit, and not the empty one
pub record IsFilled (u : TimeUnit) (xs : List ℕ) : Type 0 where
  pub is_set : IsSet u xs
  pub nonempty : xs ≡ [] → ⊥

-- the ordinals are a set of the unit, and not the empty one unless there is the mark of the last day
pub record IsFilledOrMarked (u : TimeUnit) (s : FieldSet) : Type 0 where
  pub is_set : IsSet u s.ordinals
  pub nonempty : s.ordinals ≡ [] → s.last_day ≡ true

-- each is a set of its unit and isn't empty, except days of the month that have the mark of the
-- last day
pub record AreSets (s : Sets) : Type 0 where
  pub seconds : IsFilled units.seconds s.seconds
  pub minutes : IsFilled units.minutes s.minutes
  pub hours : IsFilled units.hours s.hours
  pub days_of_month : IsFilledOrMarked units.days_of_month s.days_of_month
  pub months : IsFilled units.months s.months
  pub days_of_week : IsFilled units.days_of_week s.days_of_week
  pub years : IsFilled units.years s.years
