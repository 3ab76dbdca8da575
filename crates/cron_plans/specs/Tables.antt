-- Schedules as a set of civil seconds, by a plan or without one.
use Rattle.cron_time.specs.Seconds.{Seconds}
use Rattle.cron_unions.specs.Unions.{any_of}
use Rattle.cron_plans.specs.Inner.Planned.{has_planned}
use Rattle.cron_plans.specs.declared.table.Table.{Table}
use Rattle.cron_plans.specs.declared.table.Table.TheVariants.{Whole, Planned}

abbrev pub has_table : Table → Seconds
has_table (Whole schedules) = any_of schedules.now
has_table (Planned set) = has_planned set
