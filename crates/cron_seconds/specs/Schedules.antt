-- What a search of a schedule knows.
use Rattle.cron_units.specs.Sets.{Sets}
use Rattle.cron_time.specs.Search.Inner.MonthDays.{KnowsDays}
use Rattle.cron_seconds.specs.declared.schedule.ScheduleCursor.{ScheduleCursor}

-- the days of a month that it looked up are those of the schedule
abbrev pub Knows : Sets → ScheduleCursor → Type 0
Knows s cursor = KnowsDays s cursor.days
