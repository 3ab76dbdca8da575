use Rattle.std.proofs.Common.{◌≤◌, ◌-◌}
use Rattle.jiff.specs.Words.{plain_zone}
use Rattle.cron_tab_agenda.specs.Inner.Changes.{AreUnchanged}
use Rattle.cron_tab_agenda.proofs.changed_days.next_changed.Given as goal

abbrev pub decreases-loop-day : goal.decreases-loop-day
decreases-loop-day l = l.end - l.day

abbrev pub invariant-loop-day : goal.invariant-loop-day
invariant-loop-day l = record {
  low : l.first ≤ l.day;
  unchanged : AreUnchanged l.schedules (plain_zone l.zone) l.first l.day;
}
