-- The days that a search goes by, each a month, numbered from January of the year 0, and a day of
-- it.
use Rattle.std.specs.Prelude.{◌≡◌, true, ℕ, ◌≤◌, ◌<◌, pos, Bool, ◌&&◌, nat_le, List}
use Rattle.jiff_core.specs.Calendar.{days_in_month}
use Rattle.cron_units.specs.Units.{contains}
use Rattle.cron_units.specs.Sets.{Sets}
use Rattle.cron_time.specs.Search.Inner.Numbers.{matches_rank}
use Rattle.cron_moments.specs.Calendar.{rank, day_number, first_month, months_end}
use Rattle.cron_time.specs.declared.search.days.Day.{Day}

-- the rank of a day: 100 times the month plus the day, so that ranks are in the order of dates
abbrev pub day_rank : Day → ℕ
day_rank d = rank d.month d.day

-- the day's number, counted from 1970-01-01
abbrev pub number_of : Day → ℕ
number_of d = day_number d.month d.day

-- the month and the day within the bounds of the units
abbrev pub IsInRange : Day → Type 0
IsInRange d = (first_month ≤ d.month) × (d.month < months_end) × (1 ≤ d.day) × (d.day ≤ 31)

-- in range, and year, month and day of the month lie in their sets
abbrev pub IsCandidate : Sets → Day → Type 0
IsCandidate s d = IsInRange d × (matches_rank s (day_rank d) ≡ true)

-- the set has the day as a number, and a month of this length has it
abbrev pub has_number : List ℕ → ℕ → ℕ → Bool
has_number numbers last day = contains numbers day && nat_le day last

-- the length that a month of the year has in a leap year
abbrev pub longest : ℕ → ℕ
longest month = days_in_month (pos 2000) month
