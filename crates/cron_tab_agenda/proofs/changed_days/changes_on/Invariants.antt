use Rattle.std.proofs.Common.{◌≤◌, ◌-◌, ◌*◌}
use Rattle.jiff.specs.Words.{plain_zone}
use Rattle.cron_tab_agenda.specs.Inner.Changes.{AreChanges}
use Rattle.cron_tab_agenda.proofs.changed_days.changes_on.Given as goal

abbrev pub decreases-loop-all : goal.decreases-loop-all
decreases-loop-all l = l.end - l.all.end

abbrev pub invariant-loop-all : goal.invariant-loop-all
invariant-loop-all l = record {
  low : l.day * 86_400 ≤ l.all.end;
  high : l.all.end ≤ l.end;
  changes : AreChanges l.schedules (plain_zone l.zone) (l.day * 86_400) l.all;
}
