use Rattle.std.proofs.Common.{◌≡◌, ◌++◌, drop, map}
use Rattle.jiff.specs.Words.{plain_zone}
use Rattle.cron_tab_fires.specs.Entries.{given, view}
use Rattle.cron_tab_fires.specs.declared.error.FiresError.{FiresError}
use Rattle.cron_tab_collisions.specs.Collisions.{IsFilesError, entries_of}
use Rattle.cron_tab_collisions.proofs.report.entries_of.Given as goal

-- behind the entries so far stand those of the files that are left; and why these can't be listed is why all can't
abbrev pub invariant-loop-file : goal.invariant-loop-file
invariant-loop-file l = record {
  made : map view l.entries.items ++ entries_of (given (map plain_zone l.zones) l.asked) (drop l.file-index l.files)
      ≡ entries_of (given (map plain_zone l.zones) l.asked) l.files;
  fails : (why : FiresError) → IsFilesError (given (map plain_zone l.zones) l.asked) (drop l.file-index l.files) why
      → IsFilesError (given (map plain_zone l.zones) l.asked) l.files why;
}
