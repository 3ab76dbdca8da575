-- The schedules by which a crontab's entries fire.
use Rattle.std.specs.Prelude.{◌≡◌, List, Option, Some, None, Result, Ok}
use Rattle.cron_units.specs.Sets.{Sets}
use Rattle.cron_time.specs.Seconds.{Seconds}
use Rattle.cron_unions.specs.Unions.{any_of}
use Rattle.cron_crontab.specs.Crontab.{Meaning, schedules, reboot}
use Rattle.cron_tab_lines.specs.Files.{FileLine}
use Rattle.cron_tab_lines.specs.Lines as lines
use Rattle.cron_tab_lines.specs.Lines.{entry}
use Rattle.cron_tab_lines.specs.Refusals.{Refusal}
use Rattle.cron_tab_agenda.specs.declared.tab_entry.TabEntry.{TabEntry}

-- the entry's schedules
abbrev pub schedules_of : TabEntry → List Sets
schedules_of e = e.schedules

-- the civil seconds that match one of the entry's schedules
abbrev pub set_of : TabEntry → Seconds
set_of e = any_of (schedules_of e)

-- the schedules of an expression, which fires when one of them matches; none for `@reboot`, which
-- no clock fires
abbrev pub schedules_by : Meaning → Option (List Sets)
schedules_by (schedules some) = Some some
schedules_by reboot = None

-- the schedules of a line; none if it is no entry, or one that no clock fires
abbrev pub schedules_in : Result lines.Meaning Refusal → Option (List Sets)
schedules_in (Ok (entry e)) = schedules_by e.meaning
schedules_in _ = None

-- e is the line's entry: it has the line's number and schedules
abbrev pub IsTab : FileLine → TabEntry → Type 0
IsTab line e = (e.line ≡ line.number) × (schedules_in line.outcome ≡ Some (schedules_of e))
