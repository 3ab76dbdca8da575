-- Times of day of a set.
use Rattle.std.specs.Prelude.{ℕ, zero, suc, ◌+◌, ◌*◌, ℤ, pos, ◌-ℤ◌, Bool, false, ◌&&◌, ◌||◌, nat_lt}
use Rattle.cron_units.specs.declared.way.Way.{Way}
use Rattle.cron_units.specs.declared.way.Way.TheVariants.{Ahead, Back}
use Rattle.cron_time.specs.Seconds.{Seconds}

-- the set has this time of day on a day
abbrev pub has_time : Seconds → ℕ → ℕ → Bool
has_time s day t = nat_lt t 86_400 && s (day * 86_400 + t)

-- the set has it on one of so many days from the first one on
abbrev pub has_time_on_any : Seconds → ℕ → ℕ → ℕ → Bool
has_time_on_any s first zero t = false
has_time_on_any s first (suc n) t = has_time_on_any s first n t || has_time s (first + n) t

-- the time of day that a search in this direction reaches first
abbrev pub first_time : Way → ℕ
first_time Ahead = 0
first_time Back = 86_399

-- where the civil seconds past some days start, in this direction
abbrev pub past_days : Way → ℕ → ℕ → ℤ
past_days Ahead first last = pos ((last + 1) * 86_400)
past_days Back first last = pos (first * 86_400) -ℤ pos 1
