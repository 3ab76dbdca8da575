-- Which numbers lie in a range of a field of Quartz.
use Rattle.std.specs.Prelude.{◌≡◌, ◌≤◌, ◌<◌, ◌||◌, ℕ, nat_le}
use Rattle.cron_units.specs.Steps.{Progression, in_steps}
use Rattle.cron_units.specs.Units.{TimeUnit}
use Rattle.cron_quartz.specs.Items.{lies_in}

-- n is a number of the unit
pub record IsOf (u : TimeUnit) (n : ℕ) : Type 0 where
  pub low : u.least ≤ n
  pub high : n ≤ u.greatest

-- a range in ascending order has each number from the first by steps, up to the last
abbrev pub StepsGoOn : Type 0
StepsGoOn = (u : TimeUnit) (item : Progression) (x : ℕ) → IsOf u x → IsOf u item.last → item.first ≤ item.last → lies_in u item x ≡ in_steps item x

-- a range whose last number is less than its first goes on to the end of the unit, and from its
-- beginning to the last number
abbrev pub RangesComeRound : Type 0
RangesComeRound =
    (u : TimeUnit) (first last x : ℕ) → IsOf u x → IsOf u first → IsOf u last → last < first
    → lies_in u (record { first = first; last = last; every = 1 }) x ≡ (nat_le first x || nat_le x last)
