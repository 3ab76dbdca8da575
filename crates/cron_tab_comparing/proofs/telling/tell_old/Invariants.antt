use Rattle.std.proofs.Common.{◌++◌, ℕ, List, [], drop, map, take}
use Rattle.cron_tab_comparing.specs.Changes.{TellsOld}
use Rattle.cron_tab_comparing.specs.Entries.{view}
use Rattle.cron_replies.specs.Inner.Telling.{AppendsTold}
use Rattle.cron_tab_comparing.proofs.telling.tell_old.Given as goal

-- what is told of the entries that are left makes what is told of all
abbrev pub invariant-loop-place : goal.invariant-loop-place
invariant-loop-place l =
    (rest : List ℕ) → TellsOld l.form (map view l.others) (map view (take l.place l.entries)) (map view (drop l.place l.entries)) rest
    → AppendsTold (TellsOld l.form (map view l.others) [] (map view l.entries)) l.initial.report.items (l.report.items ++ rest)
