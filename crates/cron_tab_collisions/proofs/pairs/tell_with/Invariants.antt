use Rattle.std.proofs.Common.{drop, map}
use Rattle.cron_tab_collisions.specs.Collisions.{TellsWith}
use Rattle.cron_tab_fires.specs.Entries.{view}
use Rattle.cron_tab_collisions.proofs.TellLemmas.{IsSoFar}
use Rattle.cron_tab_collisions.proofs.pairs.tell_with.Given as goal

-- what is told of the entries that are left makes what is told of all
abbrev pub invariant-loop-other : goal.invariant-loop-other
invariant-loop-other l =
    IsSoFar (TellsWith l.fn.form l.fn.length (view l.first)) (map view l.others) (map view (drop l.other-index l.others)) l.initial.report.items l.report.items
