use Rattle.std.proofs.Common.{drop}
use Rattle.cron_c.specs.Crontabs.{IsScheduleOf}
use Rattle.cron_c.proofs.Arrays.{IsRunning}
use Rattle.cron_c.proofs.crontab_call.write_schedules.Given as goal

-- the schedules so far are written
abbrev pub invariant-loop-at : goal.invariant-loop-at
invariant-loop-at l = IsRunning IsScheduleOf l.all (drop l.at l.all) l.initial.schedules l.schedules l.at
