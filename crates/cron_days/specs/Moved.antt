-- Civil seconds that are moved to allowed days.
use Rattle.std.specs.Prelude.{ℕ, zero, suc, ◌+◌, ◌-◌, ◌*◌, ◌/◌, ◌%◌, Bool, true, ◌&&◌, not, nat_le}
use Rattle.std.specs.List.{list_any}
use Rattle.cron_units.specs.declared.way.Way.{Way}
use Rattle.cron_units.specs.declared.way.Way.TheVariants.{Ahead, Back}
use Rattle.cron_moments.specs.Civil.{days_in_range}
use Rattle.cron_time.specs.Seconds.{Seconds, numbers_below}

-- none of so many days from the first one on is allowed
abbrev pub none_allowed : (ℕ → Bool) → ℕ → ℕ → Bool
none_allowed allows first zero = true
none_allowed allows first (suc n) = none_allowed allows first n && not (allows (first + n))

-- the second day is the nearest allowed one from the first one on, in this direction
abbrev pub goes_to : Way → (ℕ → Bool) → ℕ → ℕ → Bool
goes_to Ahead allows day target = (allows target && nat_le day target) && none_allowed allows day (target - day)
goes_to Back allows day target = (allows target && nat_le target day) && none_allowed allows (target + 1) (day - target)

-- some day of the range goes to the day of the civil second, and the set has its time of day there
abbrev pub moved : Way → (ℕ → Bool) → Seconds → Seconds
moved way allows s c = list_any (λ day. goes_to way allows day (c / 86_400) && s (day * 86_400 + c % 86_400)) (numbers_below days_in_range)
