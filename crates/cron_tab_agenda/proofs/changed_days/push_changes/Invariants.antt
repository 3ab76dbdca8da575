use Rattle.std.proofs.Common.{◌≡◌, ◌≤◌, ◌-◌, ◌++◌, ℕ, List}
use Rattle.jiff.specs.Words.{plain_zone}
use Rattle.cron_tab_agenda.specs.ChangedDays.{AreChangedDays}
use Rattle.cron_tab_agenda.specs.declared.changed_days.ChangedDay.{ChangedDay}
use Rattle.cron_tab_agenda.proofs.changed_days.push_changes.Given as goal

abbrev pub decreases-loop-number : goal.decreases-loop-number
decreases-loop-number l = l.end - l.at

-- what was put there, with the changed days that are left, is all of them
abbrev pub invariant-loop-number : goal.invariant-loop-number
invariant-loop-number l =
    (more : List ChangedDay) × (l.days.items ≡ l.initial.days.items ++ more) × (l.at ≤ l.end)
    × ((end : ℕ) (rest : List ChangedDay) → l.at ≤ end → AreChangedDays l.schedules (plain_zone l.zone) l.at end rest
    → AreChangedDays l.schedules (plain_zone l.zone) l.first end (more ++ rest))
