use Rattle.std.proofs.Common.{drop, map}
use Rattle.cron_tab_collisions.specs.Collisions.{TellsAll}
use Rattle.cron_tab_fires.specs.Entries.{view}
use Rattle.cron_tab_collisions.proofs.TellLemmas.{IsSoFar}
use Rattle.cron_tab_collisions.proofs.pairs.tell_all.Given as goal

-- what is told of the entries that are left makes what is told of all
abbrev pub invariant-loop-place : goal.invariant-loop-place
invariant-loop-place l = IsSoFar (TellsAll l.fn.form l.fn.length) (map view l.entries) (map view (drop l.place l.entries)) l.initial.report.items l.report.items
