-- What is reported of entries.
use Rattle.std.specs.Prelude.{◌≡◌, ◌==◌, ℕ, Bool, false, not, List, Result, Ok, Err, if◌then◌else◌}
use Rattle.std.specs.List.{flat_map, list_any}
use Rattle.cron_controls.specs.Controls.{shown_by}
use Rattle.cron_controls.specs.declared.Controls.{Controls}
use Rattle.cron_replies.specs.Statuses.{Ends, Reporting, is_write_failure}
use Rattle.cron_replies.specs.declared.form.Form.{Form}
use Rattle.cron_replies.specs.declared.status.Status.{Status}
use Rattle.cron_replies.specs.declared.status.Status.TheVariants.{Done, No}
use Rattle.cron_tab_agenda.specs.declared.tab_file.TabFile.{TabFile}
use Rattle.cron_tab_missed.specs.Entries.{Given, TabMissed, nothing, with_files}
use Rattle.cron_tab_missed.specs.Errors.{IsFilesError}
use Rattle.cron_tab_missed.specs.Rows.{row}
use Rattle.cron_tab_missed.specs.declared.error.MissedError.{MissedError}

-- the rows of entries, with control characters as they are wanted
abbrev pub report_of : Form → Controls → List TabMissed → List ℕ
report_of form controls es = shown_by controls (flat_map (row form) es)

abbrev pub has_missed : TabMissed → Bool
has_missed e = not (e.missed.count == 0)

-- the status of a report: `No` if an entry missed a fire, else `Done`
abbrev pub missed_status : List TabMissed → Status
missed_status es = if list_any has_missed es then No else Done

-- The row of each entry of the crontabs was written. Or nothing was, since the zone of an entry
-- isn't among the zones, or memory ran out.
abbrev pub TellsMissed : {W : Type 0} → Form → Controls → Given → List TabFile → Reporting W → W → Result Status MissedError → W → Type 0
TellsMissed form controls g files out old (Ok status) new =
    let es = (with_files g nothing files).entries in
    out (Ends (missed_status es) (report_of form controls es)) old status new
TellsMissed form controls g files out old (Err why) new = IsFilesError g files why × (new ≡ old)

-- whether the answer says that a write or a flush failed
abbrev pub is_failed : Result Status MissedError → Bool
is_failed (Ok status) = is_write_failure status
is_failed (Err why) = false
