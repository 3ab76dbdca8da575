-- Where a search from a number starts among the civil seconds.
use Rattle.std.specs.Prelude.{◌≡◌, ℕ, ◌<◌, ◌+◌, ℤ, pos, ◌≤ℤ◌, ◌<ℤ◌}
use Rattle.cron_units.specs.declared.way.Way.{Way}
use Rattle.cron_units.specs.declared.way.Way.TheVariants.{Ahead, Back}
use Rattle.cron_moments.specs.Civil.{seconds_in_range}
use Rattle.cron_time.specs.Search.Counts.{low_end, high_end}

-- all civil seconds lie before the start
abbrev pub LiesOutside : Way → ℤ → Type 0
LiesOutside Ahead from = pos seconds_in_range ≤ℤ from
LiesOutside Back from = from <ℤ pos 0

-- the first civil second from the start on, in this direction
abbrev pub IsFirst : Way → ℤ → ℕ → Type 0
IsFirst Ahead from start = start ≡ low_end from
IsFirst Back from start = start + 1 ≡ high_end from

pub record Starts (way : Way) (from : ℤ) (start : ℕ) : Type 0 where
  pub in_range : start < seconds_in_range
  pub is_first : IsFirst way from start
