-- The members of the sets that a search looks up.
use Rattle.std.specs.Prelude.{ℕ, List}
use Rattle.cron_units.specs.Sets.{Sets}
use Rattle.cron_units.specs.Units.{TimeUnit}
use Rattle.cron_units.specs.Units as units
use Rattle.cron_time.specs.declared.search.members.Unit.{Unit}
use Rattle.cron_time.specs.declared.search.members.Unit.TheVariants.{Second, Minute, Hour, Day, Month, Year}

-- the members of a unit's set; of the days of the month, the numbered ones
abbrev pub members : Unit → Sets → List ℕ
members Second s = s.seconds
members Minute s = s.minutes
members Hour s = s.hours
members Day s = s.days_of_month.ordinals
members Month s = s.months
members Year s = s.years

abbrev pub unit_of : Unit → TimeUnit
unit_of Second = units.seconds
unit_of Minute = units.minutes
unit_of Hour = units.hours
unit_of Day = units.days_of_month
unit_of Month = units.months
unit_of Year = units.years
