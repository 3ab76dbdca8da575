-- Numbers that a search goes by: minutes and seconds of the day, months, and the ranks of dates. A
-- month is numbered from January of the year 0. A date's rank is 100 times its month plus its day
-- of the month.
use Rattle.std.specs.Prelude.{ℕ, ◌+◌, ◌*◌, ◌/◌, ◌%◌, ℤ, pos, ◌+ℤ◌, ◌-ℤ◌, Bool, true, false, ◌&&◌, nat_le, nat_lt}
use Rattle.jiff_tz.specs.declared.timezone.TimeZone.{TimeZone}
use Rattle.cron_units.specs.declared.way.Way.{Way}
use Rattle.cron_units.specs.declared.way.Way.TheVariants.{Ahead, Back}
use Rattle.cron_units.specs.Units.{contains}
use Rattle.cron_time.specs.Matches.{has_day}
use Rattle.cron_time.specs.Search.{stands}
use Rattle.cron_units.specs.Sets.{Sets}
use Rattle.cron_moments.specs.Calendar.{year_of, month_of, length_of}

-- where the numbers past n start, in this direction
abbrev pub beyond : Way → ℕ → ℤ
beyond Ahead n = pos n +ℤ pos 1
beyond Back n = pos n -ℤ pos 1

-- where the numbers past a block of w of them start
abbrev pub beyond_block : Way → ℕ → ℕ → ℤ
beyond_block Ahead w m = pos ((m + 1) * w)
beyond_block Back w m = pos (m * w) -ℤ pos 1

-- where the civil seconds past a day start
abbrev pub beyond_day : Way → ℕ → ℤ
beyond_day Ahead day = pos ((day + 1) * 86_400)
beyond_day Back day = pos (day * 86_400) -ℤ pos 1

-- minute and second of a second of the hour lie in their sets
abbrev pub matches_rest : Sets → ℕ → Bool
matches_rest s n = contains s.minutes (n / 60) && contains s.seconds (n % 60)

-- hour, minute and second of a second of the day lie in their sets
abbrev pub matches_second : Sets → ℕ → Bool
matches_second s n = contains s.hours (n / 3600) && matches_rest s (n % 3600)

-- a month of a year, from 0 for January, lies in its set
abbrev pub matches_month_of_year : Sets → ℕ → Bool
matches_month_of_year s n = contains s.months (n + 1)

-- the year and the month of the year lie in their sets
abbrev pub matches_month : Sets → ℕ → Bool
matches_month s month = contains s.years (year_of month) && contains s.months (month_of month)

-- the day of the month lies in its set, and the month has it
abbrev pub matches_day : Sets → ℕ → ℕ → Bool
matches_day s month day = has_day s.days_of_month (length_of month) day && nat_le day (length_of month)

-- the date with this rank is a candidate: year, month and day of the month lie in their sets
abbrev pub matches_rank : Sets → ℕ → Bool
matches_rank s p = matches_month s (p / 100) && matches_day s (p / 100) (p % 100)

-- the second of the day stands on the timeline
abbrev pub stands_at : Sets → TimeZone → ℕ → ℕ → Bool
stands_at s z day time = nat_lt time 86_400 && stands s z (day * 86_400 + time)

-- the direction that a constant of specialized code stands for: back if `true`
abbrev pub way_of : Bool → Way
way_of false = Ahead
way_of true = Back
