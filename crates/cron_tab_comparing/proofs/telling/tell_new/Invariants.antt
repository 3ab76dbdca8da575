use Rattle.std.proofs.Common.{◌≡◌, ◌++◌, [], drop, map, take}
use Rattle.cron_tab_comparing.specs.Changes.{new_rows}
use Rattle.cron_tab_comparing.specs.Entries.{view}
use Rattle.cron_tab_comparing.proofs.telling.tell_new.Given as goal

-- the rows of the entries that are left make those of all
abbrev pub invariant-loop-place : goal.invariant-loop-place
invariant-loop-place l =
    l.report.items ++ new_rows l.form (map view l.others) (map view (take l.place l.entries)) (map view (drop l.place l.entries))
    ≡ l.initial.report.items ++ new_rows l.form (map view l.others) [] (map view l.entries)
