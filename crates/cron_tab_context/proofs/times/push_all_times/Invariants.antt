use Rattle.std.proofs.Common.{map}
use Rattle.jiff.specs.Words.{plain_zone}
use Rattle.cron_tab_context.proofs.TimeLemmas.{AreSoFar}
use Rattle.cron_tab_context.proofs.times.push_all_times.Given as goal

-- what was found of the lines that are left makes what was found of all
abbrev pub invariant-loop-line : goal.invariant-loop-line
invariant-loop-line l =
    AreSoFar (map plain_zone l.zones) l.names l.start.nanosecond l.fn.lines l.here l.line-iterator l.initial.found.items l.found.items
