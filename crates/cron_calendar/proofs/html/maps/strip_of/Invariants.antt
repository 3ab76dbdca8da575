use Rattle.std.proofs.Common.{◌-◌, ◌≤◌}
use Rattle.cron_calendar.proofs.html.maps.strip_of.Given as goal

abbrev pub invariant-loop-at : goal.invariant-loop-at
invariant-loop-at l = l.at ≤ 367

abbrev pub decreases-loop-at : goal.decreases-loop-at
decreases-loop-at l = 367 - l.at
