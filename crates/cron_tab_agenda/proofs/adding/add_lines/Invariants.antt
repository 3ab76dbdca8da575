use Rattle.std.proofs.Common.{map}
use Rattle.std.specs.Prelude.{Result, ⊤}
use Rattle.jiff.specs.Words.{plain_zone}
use Rattle.cron_agenda.specs.Entries.{Listed}
use Rattle.cron_tab_agenda.specs.Adding.{AddsLines, start_of}
use Rattle.cron_tab_agenda.specs.declared.error.LineError.{LineError}
use Rattle.cron_tab_agenda.specs.declared.tab_entry.TabEntry.{TabEntry}
use Rattle.cron_tab_agenda.proofs.adding.add_lines.Given as goal

-- what the lines that are left add makes what all lines add
abbrev pub invariant-loop-line : goal.invariant-loop-line
invariant-loop-line l =
    (answer : Result ⊤ LineError) (after : Listed TabEntry)
    → AddsLines (start_of (map plain_zone l.zones) l.here l.clock l.start.nanosecond) l.names l.line-iterator l.agenda answer after
    → AddsLines (start_of (map plain_zone l.zones) l.zone l.clock l.start.nanosecond) l.names l.fn.lines l.initial.agenda answer after
