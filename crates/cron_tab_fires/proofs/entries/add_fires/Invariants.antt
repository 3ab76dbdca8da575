use Rattle.std.proofs.Common.{◌≡◌, ◌++◌, Some, map}
use Rattle.jiff.specs.Words.{plain_zone}
use Rattle.cron_tab_lines.specs.Views.{bytes_view}
use Rattle.cron_tab_fires.specs.Entries.{entries_in, given, view}
use Rattle.cron_tab_fires.specs.Errors.{IsFiresError}
use Rattle.cron_tab_fires.specs.declared.error.FiresError.{FiresError}
use Rattle.cron_tab_fires.proofs.entries.add_fires.Given as goal

-- behind the entries so far stand those of the lines that are left; and why these can't be put there is why all can't
abbrev pub invariant-loop-line : goal.invariant-loop-line
invariant-loop-line l = record {
  made : map view l.entries.items ++ entries_in (given (map plain_zone l.zones) l.asked) (bytes_view l.file) l.here l.line-iterator
      ≡ map view l.initial.entries.items ++ entries_in (given (map plain_zone l.zones) l.asked) (bytes_view l.file) (Some 0) l.fn.lines;
  fails : (why : FiresError) → IsFiresError (given (map plain_zone l.zones) l.asked) l.here l.line-iterator why
      → IsFiresError (given (map plain_zone l.zones) l.asked) (Some 0) l.fn.lines why;
}
