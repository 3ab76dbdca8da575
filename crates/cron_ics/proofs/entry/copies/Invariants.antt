use Rattle.std.proofs.Common.{◌≡◌, ◌≤◌, take}
use Rattle.cron_ics.specs.Events.{copies}
use Rattle.cron_ics.proofs.entry.copies.Given as goal

abbrev pub invariant-loop-entry : goal.invariant-loop-entry
invariant-loop-entry l = record { value : l.count ≡ copies l.text (take l.entry-index l.entries); bound : l.count ≤ l.entry-index }
