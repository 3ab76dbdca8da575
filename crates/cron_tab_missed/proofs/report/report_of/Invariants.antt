use Rattle.std.proofs.Common.{◌≡◌, ◌++◌, drop, map}
use Rattle.std.specs.List.{flat_map}
use Rattle.cron_tab_missed.specs.Entries.{view}
use Rattle.cron_tab_missed.specs.Rows.{row}
use Rattle.cron_tab_missed.proofs.report.report_of.Given as goal

-- behind the rows so far come those of the entries that are left
abbrev pub invariant-loop-entry : goal.invariant-loop-entry
invariant-loop-entry l =
    l.report.items ++ flat_map (row l.form) (map view (drop l.entry-index l.entries)) ≡ flat_map (row l.form) (map view l.entries)
