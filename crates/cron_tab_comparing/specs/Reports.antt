-- How what differs between two crontabs is reported.
use Rattle.std.specs.Prelude.{◌≡◌, ◌⊎◌, ℕ, List, [], ◌∷◌, Option}
use Rattle.cron_controls.specs.Controls.{shown_by}
use Rattle.cron_controls.specs.declared.Controls.{Controls}
use Rattle.cron_replies.specs.Statuses.{Ends, Reporting}
use Rattle.cron_replies.specs.declared.form.Form.{Form}
use Rattle.cron_replies.specs.declared.status.Status.{Status}
use Rattle.cron_replies.specs.declared.status.Status.TheVariants.{Done, No, Unreadable}
use Rattle.cron_tab_comparing.specs.Changes.{TellsAll}
use Rattle.cron_tab_comparing.specs.Entries.{Entry}

-- the status of a report: `Done` without a row, and else `No`
abbrev pub changed_status : List ℕ → Status
changed_status [] = Done
changed_status (c ∷ cs) = No

-- the rows of what differs were written, with control characters as `controls` wants them
pub record AreTold (form : Form) (controls : Controls) (es fs : List Entry) (was is : Option (List ℕ)) (status : Status) : Type 0 where
  pub report : List ℕ
  pub tells : TellsAll form es fs report
  pub ends : Ends (changed_status report) (shown_by controls report) was is status

-- The rows of what differs were written; or nothing was, since memory ran out.
abbrev pub TellsChanges : {W : Type 0} → Form → Controls → List Entry → List Entry → Reporting W → W → Status → W → Type 0
TellsChanges form controls es fs out old status new = out (AreTold form controls es fs) old status new ⊎ ((status ≡ Unreadable) × (new ≡ old))
