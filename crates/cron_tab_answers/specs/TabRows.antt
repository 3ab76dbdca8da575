-- The fires of crontabs' entries as rows, in one order.
use Rattle.std.specs.Prelude.{◌≡◌, ◌<◌, ◌++◌, ℕ, ℤ, List, [], ◌∷◌, Bool, false, Option, Some, None, Result, Ok, Err, ⊤, codes, slice_get, length}
use Rattle.std.specs.Io.KnownBytes.{Appends}
use Rattle.jiff_tz.specs.declared.timezone.TimeZone.{TimeZone}
use Rattle.json.specs.Token.{Token}
use Rattle.cron_agenda.specs.Entries.{Listed}
use Rattle.cron_agenda.specs.Merged.{AllAscend}
use Rattle.cron_agenda.specs.Messages.{fire_text}
use Rattle.cron_agenda.specs.declared.fire.EntryFire.{EntryFire}
use Rattle.cron_agenda.specs.declared.fire.EntryFire.TheVariants.{AsShown, Once}
use Rattle.cron_dues.specs.DueText.{shown}
use Rattle.cron_looks.specs.Times.{IsTime, IsTimeError, is_out_of_memory}
use Rattle.cron_looks.specs.declared.times.Times.{Times}
use Rattle.cron_moments.specs.Readings.{Reading}
use Rattle.jiff_core.specs.declared.error.Error.{Error}
use Rattle.cron_tab_agenda.specs.Listing.{AreTaken, AreTheFront, EndsBy, IsTabTaken}
use Rattle.cron_tab_agenda.specs.Tabs.{set_of}
use Rattle.cron_tab_agenda.specs.declared.error.ListError.TheVariants as ListError
use Rattle.cron_tab_agenda.specs.declared.listing.TabFire.{TabFire}
use Rattle.cron_tab_agenda.specs.declared.tab_entry.TabEntry.{TabEntry}
use Rattle.cron_tab_lines.specs.Views.{bytes_view}
use Rattle.cron_tab_rows.specs.Cells.{place_cell, task_cell}
use Rattle.cron_tab_rows.specs.Members.{fire_members, object_row, place_members, task_members}
use Rattle.cron_tab_rows.specs.Sources.{view}
use Rattle.cron_tab_rows.specs.declared.source.Source.{Source}
use Rattle.cron_writer.specs.Watching.{IsFrontSent}
use Rattle.cron_replies.specs.declared.form.Form.{Form}
use Rattle.cron_replies.specs.declared.form.Form.TheVariants.{Text, Json}
use Rattle.cron_replies.specs.declared.status.Status.{Status}
use Rattle.cron_replies.specs.Statuses.{is_write_failure}
use Rattle.cron_replies.specs.declared.status.Status.TheVariants.{Done, WriteFailed}
use Rattle.cron_tab_answers.specs.declared.fault.ListFault.{ListFault}
use Rattle.cron_tab_answers.specs.declared.fault.ListFault.TheVariants as fault
use Rattle.cron_controls.specs.Controls.{shown_by}
use Rattle.cron_tab_answers.specs.declared.tab_row.Style.{Style}

-- what the clock shows at a fire's instant
abbrev pub moment_at : EntryFire → Reading
moment_at (AsShown moment) = moment
moment_at (Once due) = shown due

-- the file of an entry and the number of its line, the user and the command, with tabs between, and
-- a line feed
abbrev pub entry_cells : Source → ℕ → List ℕ
entry_cells s line = place_cell (bytes_view s.file) line ++ task_cell (view s)

-- the row of a fire as text: its time as it is wanted, a tab, and the cells of its entry, with
-- control characters as they are wanted
abbrev pub IsTextRow : Style → Source → TabFire → List ℕ → Type 0
IsTextRow style s f row =
    (time : List ℕ) × (row ≡ time ++ 9 ∷ shown_by style.controls (entry_cells s f.line))
    × IsTime style.times (fire_text f.fire) (moment_at f.fire) time

abbrev pub members : Source → TabFire → List Token
members s f =
    fire_members (codes "fire") (codes "epoch") f.fire
    ++ (place_members (codes "line") (codes "file") (bytes_view s.file) f.line ++ task_members (view s))

-- the row of a fire as JSON: an object with the fire, its instant, the line's number, the file, the
-- user, the command and its input, and a line feed
abbrev pub json_row : Source → TabFire → List ℕ
json_row s f = object_row (members s f)

abbrev pub IsRowAs : Form → Style → Source → TabFire → List ℕ → Type 0
IsRowAs Text style s f row = IsTextRow style s f row
IsRowAs Json style s f row = row ≡ shown_by style.controls (json_row s f)

abbrev pub IsRow : Style → Source → TabFire → List ℕ → Type 0
IsRow style = IsRowAs style.form style

-- The text is the rows of some fires, one after another, each with the source at the id of its
-- entry.
abbrev pub AreRows : Style → List Source → List TabFire → List ℕ → Type 0
AreRows style sources [] text = text ≡ []
AreRows style sources (f ∷ fires) text =
    (s : Source) × (here : List ℕ) × (rest : List ℕ) × (slice_get sources f.id ≡ Some s) × (text ≡ here ++ rest) × IsRow style s f here
    × AreRows style sources fires rest

-- what is listed: fires up to and with the instant t, in nanoseconds since 1970, at most `limit` of
-- them, by the zones and the sources of the entries, with times written so
pub record Wanted : Type 0 where
  pub zones : List TimeZone
  pub t : ℤ
  pub limit : ℕ
  pub sources : List Source
  pub times : Times

abbrev pub wanted : List TimeZone → ℤ → ℕ → List Source → Times → Wanted
wanted zones t limit sources times = record { zones = zones; t = t; limit = limit; sources = sources; times = times }

-- The entry of the next fire has no source.
abbrev pub LacksSource : Wanted → Listed TabEntry → Type 0
LacksSource w left = (f : TabFire) × (after : Listed TabEntry) × IsTabTaken w.zones w.t left f after × (slice_get w.sources f.id ≡ None)

-- `strftime` refuses the format of times at the next fire.
abbrev pub LacksTime : Wanted → Listed TabEntry → Type 0
LacksTime w left =
    (f : TabFire) × (after : Listed TabEntry) × IsTabTaken w.zones w.t left f after
    × ((why : Error) × (is_out_of_memory why ≡ false) × IsTimeError w.times (moment_at f.fire) why)

-- Why no more fires are taken after `count` of them. All that were wanted are; or the zone, the
-- source or the time of the next one is missing; or memory ran out.
abbrev pub StopsBy : Wanted → ℕ → Result ⊤ ListFault → Listed TabEntry → Type 0
StopsBy w count (Ok done) left = EndsBy w.zones w.t w.limit count (Ok done) left
StopsBy w count (Err (fault.Zone why)) left = EndsBy w.zones w.t w.limit count (Err (ListError.Zone why)) left
StopsBy w count (Err fault.Source) left = (count < w.limit) × LacksSource w left
StopsBy w count (Err fault.Format) left = (count < w.limit) × LacksTime w left
StopsBy w count (Err fault.OutOfMemory) left = count < w.limit

-- How a list ends: with all fires that were wanted, with a failed write, or with a fault.
abbrev pub ListEndsAs : Result Status ListFault → Wanted → List TabFire → Listed TabEntry → List ℕ → Option (List ℕ) → Option (List ℕ) → Type 0
ListEndsAs (Ok Done) w fires left report old new = StopsBy w (length fires) (Ok tt) left × Appends old new report
ListEndsAs (Ok WriteFailed) w fires left report old new = IsFrontSent old new report
ListEndsAs (Ok other) w fires left report old new = ⊥
ListEndsAs (Err why) w fires left report old new = StopsBy w (length fires) (Err why) left × Appends old new report

-- whether a write failed
abbrev pub is_failed : Result Status ListFault → Bool
is_failed (Ok status) = is_write_failure status
is_failed (Err why) = false

-- Fires were taken up to and with the instant t, at most `limit`, and their rows were written. They
-- are the first of all that the entries had.
pub record ListsTabs (style : Style) (w : Wanted) (entries : Listed TabEntry) (old new : Option (List ℕ)) (answer : Result Status ListFault) : Type 0 where
  pub fires : List TabFire
  pub left : Listed TabEntry
  pub taken : AreTaken w.zones w.t entries fires left
  pub front : AllAscend set_of w.zones entries.entries → AreTheFront w.zones entries fires left × AllAscend set_of w.zones left.entries
  pub report : List ℕ
  pub rows : AreRows style w.sources fires report
  pub ends : ListEndsAs answer w fires left report old new
