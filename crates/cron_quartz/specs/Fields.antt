-- The fields of an expression of Quartz, and the unit of each.
use Rattle.cron_units.specs.Units.{TimeUnit}
use Rattle.cron_units.specs.Units as units
use Rattle.cron_quartz.specs.declared.field.Field.{Field}
use Rattle.cron_quartz.specs.declared.field.Field.TheVariants.{Second, Minute, Hour, DayOfMonth, Month, DayOfWeek, Year}

abbrev pub unit_of : Field → TimeUnit
unit_of Second = units.seconds
unit_of Minute = units.minutes
unit_of Hour = units.hours
unit_of DayOfMonth = units.days_of_month
unit_of Month = units.months
unit_of DayOfWeek = units.days_of_week
unit_of Year = units.years
