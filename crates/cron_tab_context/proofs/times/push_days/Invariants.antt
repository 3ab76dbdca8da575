use Rattle.std.proofs.Common.{◌≡◌, ◌++◌, drop, map}
use Rattle.cron_tab_context.specs.Times.{changed}
use Rattle.cron_tab_context.proofs.times.push_days.Given as goal

-- what was found so far, with the days that are left, is all of them
abbrev pub invariant-loop-day : goal.invariant-loop-day
invariant-loop-day l = l.found.items ++ map (changed l.line) (drop l.day-index l.days) ≡ l.initial.found.items ++ map (changed l.line) l.days
