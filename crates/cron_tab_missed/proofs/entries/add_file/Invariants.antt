use Rattle.std.proofs.Common.{◌≡◌, Some, map}
use Rattle.jiff.specs.Words.{plain_zone}
use Rattle.cron_tab_lines.specs.Files.{file_lines}
use Rattle.cron_tab_lines.specs.Views.{bytes_view}
use Rattle.cron_tab_missed.specs.Entries.{given, since_view, with_lines}
use Rattle.cron_tab_missed.specs.Errors.{IsLinesError}
use Rattle.cron_tab_missed.specs.Inner.Counts.{Knows}
use Rattle.cron_tab_missed.specs.Inner.Founds.{found_view}
use Rattle.cron_tab_missed.specs.declared.error.MissedError.{MissedError}
use Rattle.cron_tab_missed.proofs.entries.add_file.Given as goal

-- behind the entries so far come those of the lines that are left; and why these can't be added is why all can't
abbrev pub invariant-loop-line : goal.invariant-loop-line
invariant-loop-line l = record {
  made : with_lines (given (map plain_zone l.zones) l.asked) (bytes_view l.file.name) (found_view l.found) l.here l.line-iterator
      ≡ with_lines (given (map plain_zone l.zones) l.asked) (bytes_view l.file.name) (found_view l.initial.found) (Some 0) (file_lines l.file.kind l.file.bytes.now);
  knows : Knows (since_view l.asked.since) (found_view l.found).keys l.counts;
  fails : (why : MissedError) → IsLinesError (given (map plain_zone l.zones) l.asked) l.here l.line-iterator why
      → IsLinesError (given (map plain_zone l.zones) l.asked) (Some 0) (file_lines l.file.kind l.file.bytes.now) why;
}
