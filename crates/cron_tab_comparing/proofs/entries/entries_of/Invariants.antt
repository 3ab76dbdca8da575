use Rattle.std.proofs.Common.{◌≡◌, ◌++◌, [], map}
use Rattle.cron_tab_comparing.specs.Entries.{entries_in, view}
use Rattle.cron_tab_comparing.proofs.entries.entries_of.Given as goal

-- behind the entries so far stand those of the lines that are left
abbrev pub invariant-loop-line : goal.invariant-loop-line
invariant-loop-line l = map view l.entries.items ++ entries_in l.zone l.line-iterator ≡ entries_in [] l.fn.lines
