-- Days by their numbers since 1970-01-01, and rows of days that a rule treats alike.
use Rattle.std.specs.Prelude.{◌≡◌, ℕ, ◌<◌, ◌≤◌, ℤ, pos, ◌+ℤ◌, ◌-ℤ◌, Bool, true, ◌&&◌, nat_lt}
use Rattle.cron_units.specs.declared.way.Way.{Way}
use Rattle.cron_units.specs.declared.way.Way.TheVariants.{Ahead, Back}
use Rattle.cron_moments.specs.Civil.{days_in_range}
use Rattle.cron_days.specs.declared.row.Row.{Row}

-- a day of the range that the rule allows
abbrev pub is_day : (ℕ → Bool) → ℕ → Bool
is_day allows n = nat_lt n days_in_range && allows n

-- a day of the range
abbrev pub is_each_day : ℕ → Bool
is_each_day n = nat_lt n days_in_range && true

-- days in a row that the rule treats alike, one day among them
pub record IsRow (allows : ℕ → Bool) (day : ℕ) (row : Row) : Type 0 where
  pub from : row.first ≤ day
  pub to : day ≤ row.last
  pub in_range : row.last < days_in_range
  pub alike : (k : ℕ) → row.first ≤ k → k ≤ row.last → allows k ≡ row.allowed

-- where the days past a row start, in this direction
abbrev pub end_of : Way → Row → ℤ
end_of Ahead row = pos row.last +ℤ pos 1
end_of Back row = pos row.first -ℤ pos 1
