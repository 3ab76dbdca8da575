use Rattle.std.proofs.Common.{◌≡◌, ◌++◌}
use Rattle.cron_holidays.specs.Events.{days_from}
use Rattle.cron_holidays.proofs.event.push_between.Given as goal

abbrev pub invariant-loop-place : goal.invariant-loop-place
invariant-loop-place l = l.days.items ≡ l.initial.days.items ++ days_from l.start l.place
