-- The days whose civil seconds go to one allowed day.
use Rattle.std.specs.Prelude.{◌≡◌, ℕ, ◌+◌, ◌-◌, ◌<◌, ◌≤◌, pos, Bool, true, false}
use Rattle.cron_units.specs.declared.way.Way.{Way}
use Rattle.cron_units.specs.Nearest.{IsNearestAt}
use Rattle.cron_moments.specs.Civil.{days_in_range}
use Rattle.cron_days.specs.Days.{is_day}

-- a first day: none from it to the target is allowed, and the one before it is
pub record IsFirstSource (allows : ℕ → Bool) (target first : ℕ) : Type 0 where
  pub low : first ≤ target
  pub none : (k : ℕ) → first ≤ k → k < target → is_day allows k ≡ false
  pub before : 0 < first → is_day allows (first - 1) ≡ true

-- a last day: none from the target to it is allowed, and the one after it is
pub record IsLastSource (allows : ℕ → Bool) (target last : ℕ) : Type 0 where
  pub high : target ≤ last
  pub in_range : last < days_in_range
  pub none : (k : ℕ) → target < k → k ≤ last → is_day allows k ≡ false
  pub after : last + 1 < days_in_range → is_day allows (last + 1) ≡ true

-- the days of the range whose nearest allowed day, in this direction, is the target
pub record AreSources (way : Way) (allows : ℕ → Bool) (target first last : ℕ) : Type 0 where
  pub low : first ≤ target
  pub high : target ≤ last
  pub in_range : last < days_in_range
  pub each : (e : ℕ) → first ≤ e → e ≤ last → IsNearestAt way (is_day allows) (pos e) target
  pub others : (e : ℕ) → e < days_in_range → IsNearestAt way (is_day allows) (pos e) target → (first ≤ e) × (e ≤ last)
