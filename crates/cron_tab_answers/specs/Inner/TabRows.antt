-- How rows of fires are gathered.
use Rattle.std.specs.Prelude.{◌≡◌, ℕ, false, List, Option, Result, Ok, Err, ⊤, if◌then◌else◌, length}
use Rattle.std.specs.declared.io.Error.{Error}
use Rattle.jiff_core.specs.declared.error.Error as core
use Rattle.cron_agenda.specs.Entries.{Listed}
use Rattle.cron_checking.specs.Puts.{Puts}
use Rattle.cron_looks.specs.Times.{is_out_of_memory}
use Rattle.cron_tab_agenda.specs.Listing.{AreTaken}
use Rattle.cron_tab_agenda.specs.declared.listing.TabFire.{TabFire}
use Rattle.cron_tab_agenda.specs.declared.tab_entry.TabEntry.{TabEntry}
use Rattle.cron_writer.specs.Watching.{has_failed}
use Rattle.cron_writer.specs.declared.gathered.Gathered.{Gathered}
use Rattle.cron_writer.specs.declared.watched.Watched.{Watched}
use Rattle.cron_tab_answers.specs.TabRows.{AreRows, StopsBy, Wanted}
use Rattle.cron_tab_answers.specs.declared.tab_row.Style.{Style}
use Rattle.cron_replies.specs.declared.status.Status.{Status}
use Rattle.cron_replies.specs.declared.status.Status.TheVariants.{Done}
use Rattle.cron_tab_answers.specs.declared.fault.ListFault.{ListFault}
use Rattle.cron_tab_answers.specs.declared.fault.ListFault.TheVariants.{Format, OutOfMemory}

-- Rows of fires were gathered. If no write failed, they go as far as the answer says.
pub record GathersTabs {W : Type 0} (style : Style) (w : Wanted) (entries : Listed TabEntry) (contents : W → Option (List ℕ))
    (writes : W → List ℕ → Result ℕ Error → W → Type 0) (old new : Gathered × Watched W) (answer : Result ⊤ ListFault) : Type 0 where
  pub fires : List TabFire
  pub left : Listed TabEntry
  pub taken : AreTaken w.zones w.t entries fires left
  pub report : List ℕ
  pub rows : AreRows style w.sources fires report
  pub puts : Puts contents writes old.0 old.1 new.0 new.1 report
  pub whole : has_failed new.1 ≡ false → StopsBy w (length fires) answer left

-- how a list ends: by a fault only if no write failed
abbrev pub list_end : Result ⊤ ListFault → Status → Result Status ListFault
list_end (Err why) Done = Err why
list_end answer status = Ok status

-- why a list ends where a row can't be made
abbrev pub fault_of : core.Error → ListFault
fault_of why = if is_out_of_memory why then OutOfMemory else Format
