-- The units of a civil datetime, one by one.
use Rattle.std.specs.Prelude.{Bool, List}
use Rattle.std.specs.List.{list_all}
use Rattle.jiff_core.specs.declared.civil.datetime.DateTime.{DateTime}
use Rattle.cron_moments.specs.Calendar.{weekday_number}
use Rattle.cron_units.specs.Sets.{Sets}
use Rattle.cron_units.specs.Units.{contains}
use Rattle.cron_time.specs.Matches.{contains_year}
use Rattle.cron_unions.specs.declared.units.Unit.{Unit}
use Rattle.cron_unions.specs.declared.units.Unit.TheVariants.{Year, Month, Day, Weekday, Hour, Minute, Second}

-- the unit of the datetime lies in its set; a mark of the last day doesn't count
abbrev pub has_unit : Sets → DateTime → Unit → Bool
has_unit s dt Year = contains_year s.years dt.date.year
has_unit s dt Month = contains s.months dt.date.month
has_unit s dt Day = contains s.days_of_month.ordinals dt.date.day
has_unit s dt Weekday = contains s.days_of_week (weekday_number dt.date)
has_unit s dt Hour = contains s.hours dt.time.hour
has_unit s dt Minute = contains s.minutes dt.time.minute
has_unit s dt Second = contains s.seconds dt.time.second

-- all of these units of the datetime lie in their sets
abbrev pub has_units : Sets → DateTime → List Unit → Bool
has_units s dt us = list_all (has_unit s dt) us
