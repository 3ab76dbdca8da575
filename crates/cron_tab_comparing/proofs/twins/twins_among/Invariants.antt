use Rattle.std.proofs.Common.{drop, map, take}
use Rattle.cron_tab_comparing.specs.Entries.{view}
use Rattle.cron_tab_comparing.proofs.TwinLemmas.{AreSoFar}
use Rattle.cron_tab_comparing.proofs.twins.twins_among.Given as goal

-- the twins of the entries that are left make those of all
abbrev pub invariant-loop-place : goal.invariant-loop-place
invariant-loop-place l = AreSoFar (map view l.entries) (map view (take l.place l.entries)) (map view (drop l.place l.entries)) l.twins.items
