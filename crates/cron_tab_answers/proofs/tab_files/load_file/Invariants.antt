use Rattle.std.proofs.Common.{Some, map}
use Rattle.jiff.specs.Words.{plain_zone}
use Rattle.cron_agenda.specs.declared.error.AddError.{AddError}
use Rattle.cron_tab_lines.specs.Files.{file_lines}
use Rattle.cron_tab_lines.specs.Views.{bytes_view}
use Rattle.cron_tab_answers.specs.TabFiles.{FailsAt, LoadsLines, TabAgenda, agenda_view, given}
use Rattle.cron_tab_answers.proofs.tab_files.load_file.Given as goal

-- what the lines that are left load makes what all lines load, and why it ends at one of them is why it ends at all
abbrev pub invariant-loop-line : goal.invariant-loop-line
invariant-loop-line l = record {
  loads : (after : TabAgenda)
      → LoadsLines (given (map plain_zone l.zones) l.firing) l.here (bytes_view l.file.name) l.line-iterator (agenda_view l.tabs) after
      → LoadsLines (given (map plain_zone l.zones) l.firing) (Some 0) (bytes_view l.file.name) (file_lines l.file.kind l.file.bytes.now) (agenda_view l.initial.tabs) after;
  fails : (why : AddError)
      → FailsAt (given (map plain_zone l.zones) l.firing) l.here (bytes_view l.file.name) l.line-iterator (agenda_view l.tabs) why
      → FailsAt (given (map plain_zone l.zones) l.firing) (Some 0) (bytes_view l.file.name) (file_lines l.file.kind l.file.bytes.now) (agenda_view l.initial.tabs) why;
}
