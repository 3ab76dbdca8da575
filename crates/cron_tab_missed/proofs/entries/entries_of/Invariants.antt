use Rattle.std.proofs.Common.{◌≡◌, drop, map}
use Rattle.jiff.specs.Words.{plain_zone}
use Rattle.cron_tab_missed.specs.Entries.{given, nothing, since_view, with_files}
use Rattle.cron_tab_missed.specs.Errors.{IsFilesError}
use Rattle.cron_tab_missed.specs.Inner.Counts.{Knows}
use Rattle.cron_tab_missed.specs.Inner.Founds.{found_view}
use Rattle.cron_tab_missed.specs.declared.error.MissedError.{MissedError}
use Rattle.cron_tab_missed.proofs.entries.entries_of.Given as goal

-- behind the entries so far come those of the files that are left; and why these can't be added is why all can't
abbrev pub invariant-loop-file : goal.invariant-loop-file
invariant-loop-file l = record {
  made : with_files (given (map plain_zone l.zones) l.asked) (found_view l.found) (drop l.file-index l.files)
      ≡ with_files (given (map plain_zone l.zones) l.asked) nothing l.files;
  knows : Knows (since_view l.asked.since) (found_view l.found).keys l.counts;
  fails : (why : MissedError) → IsFilesError (given (map plain_zone l.zones) l.asked) (drop l.file-index l.files) why
      → IsFilesError (given (map plain_zone l.zones) l.asked) l.files why;
}
