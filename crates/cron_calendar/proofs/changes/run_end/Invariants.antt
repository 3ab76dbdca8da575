use Rattle.std.proofs.Common.{◌-◌, ◌≤◌}
use Rattle.jiff.specs.Words.{plain_zone}
use Rattle.cron_calendar.specs.Changes.{AreShown}
use Rattle.cron_calendar.proofs.changes.run_end.Given as goal

abbrev pub invariant-loop-at : goal.invariant-loop-at
invariant-loop-at l = (l.first ≤ l.at) × (l.at ≤ l.end) × AreShown (plain_zone l.zone) l.times l.first l.at

abbrev pub decreases-loop-at : goal.decreases-loop-at
decreases-loop-at l = l.end - l.at
