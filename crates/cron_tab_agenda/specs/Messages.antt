-- The messages of errors.
use Rattle.std.specs.Prelude.{ℕ, List, ◌++◌, codes}
use Rattle.std.specs.Fmt.{decimal}
use Rattle.cron_agenda.specs.Messages.{add_error_text, zone_missing_text}
use Rattle.cron_tab_agenda.specs.declared.error.LineError.{LineError}
use Rattle.cron_tab_agenda.specs.declared.error.LineError.TheVariants.{ZoneLine, NotAdded}
use Rattle.cron_tab_agenda.specs.declared.error.ListError.{ListError}
use Rattle.cron_tab_agenda.specs.declared.error.ListError.TheVariants.{Zone, OutOfMemory}

abbrev pub line_error_text : LineError → List ℕ
line_error_text (ZoneLine number) =
    codes "line " ++ (decimal number ++ codes ": CRON_TZ is none of the zones")
line_error_text (NotAdded number why) = codes "line " ++ (decimal number ++ (codes ": " ++ add_error_text why))

abbrev pub list_error_text : ListError → List ℕ
list_error_text (Zone missing) = zone_missing_text
list_error_text OutOfMemory = codes "out of memory"
