-- Several schedules as one: a civil second that matches any of them counts once.
use Rattle.std.specs.Prelude.{List}
use Rattle.cron_time.specs.Seconds.{Seconds}
use Rattle.cron_unions.specs.Unions.{any_in}
use Rattle.cron_c.specs.Structs.{seconds_of_struct}
use Rattle.cron_c.specs.declared.schedule.CronSchedule.{CronSchedule}

-- the civil seconds that match the sets of any of the structs
abbrev pub seconds_of_any : List CronSchedule → Seconds
seconds_of_any cs = any_in seconds_of_struct cs
