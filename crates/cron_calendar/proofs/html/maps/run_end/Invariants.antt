use Rattle.std.proofs.Common.{◌-◌, ◌≤◌}
use Rattle.cron_calendar.proofs.html.maps.run_end.Given as goal

abbrev pub invariant-loop-end : goal.invariant-loop-end
invariant-loop-end l = (l.first ≤ l.end) × (l.end ≤ 366)

abbrev pub decreases-loop-end : goal.decreases-loop-end
decreases-loop-end l = 366 - l.end
