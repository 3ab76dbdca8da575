-- The entries of crontabs in an agenda, each with its source: its file, user, command and input.
use Rattle.std.specs.Prelude.{◌≡◌, ◌⊎◌, ◌++◌, ℕ, ℤ, List, [], ◌∷◌, Option, Some, None, Ok, Err}
use Rattle.jiff_tz.specs.declared.timezone.TimeZone.{TimeZone}
use Rattle.cron_agenda.specs.Entries.{Listed, listed}
use Rattle.cron_agenda.specs.declared.error.AddError.{AddError}
use Rattle.cron_agenda.specs.declared.error.AddError.TheVariants.{OutOfMemory}
use Rattle.cron_tab_lines.specs.Entries.{Entry}
use Rattle.cron_tab_lines.specs.Files.{FileLine}
use Rattle.cron_tab_lines.specs.Lines.{entry}
use Rattle.cron_tab_lines.specs.Zones.{zone_below}
use Rattle.cron_tab_lines.specs.declared.zones.NamedZone.{NamedZone}
use Rattle.cron_tab_agenda.specs.Adding.{AddsLine, Start, start_of}
use Rattle.cron_tab_agenda.specs.declared.adding.Clock.{Clock}
use Rattle.cron_tab_agenda.specs.declared.tab_entry.TabEntry.{TabEntry}
use Rattle.cron_tab_rows.specs.Sources.{source_of, view}
use Rattle.cron_tab_rows.specs.declared.source.Source.{Source}
use Rattle.cron_tab_answers.specs.declared.tab_files.Firing.{Firing}
use Rattle.cron_tab_answers.specs.declared.tab_files.TabAgenda as code

-- an agenda, and the source of each of its entries, whose index is the entry's id
pub record TabAgenda : Type 0 where
  pub agenda : Listed TabEntry
  pub sources : List Source

abbrev pub agenda_view : code.TabAgenda → TabAgenda
agenda_view a = record { agenda = a.agenda; sources = a.sources.items }

abbrev pub nothing : TabAgenda
nothing = record { agenda = listed [] 0 0; sources = [] }

-- The source s has the file, user, command and input of a line's entry.
abbrev pub IsSource : Option (List ℕ) → FileLine → Source → Type 0
IsSource file line s = (e : Entry) × (line.outcome ≡ Ok (entry e)) × (view s ≡ source_of file e)

-- The source of an entry that was added, which has an id then, is appended to the sources. Else
-- nothing is.
abbrev pub AddsSource : Option (List ℕ) → FileLine → Option ℕ → List Source → List Source → Type 0
AddsSource file line None old new = new ≡ old
AddsSource file line (Some id) old new = (s : Source) × IsSource file line s × (new ≡ old ++ s ∷ [])

-- The entry of a line is added to the agenda, with its source, if the line is an entry that fires
-- again.
abbrev pub LoadsLine : Start → Option (List ℕ) → FileLine → TabAgenda → TabAgenda → Type 0
LoadsLine s file line old new =
    (answer : Option ℕ) × AddsLine s line old.agenda (Ok answer) new.agenda × AddsSource file line answer old.sources new.sources

-- where, after which instant t (in nanoseconds since 1970) and by which rule entries fire
pub record Given : Type 0 where
  pub zones : List TimeZone
  pub names : List NamedZone
  pub clock : Clock
  pub t : ℤ

abbrev pub given : List TimeZone → Firing → Given
given zones f = record { zones = zones; names = f.names.now; clock = f.clock; t = f.start.nanosecond }

-- The entry of a line is added in the zone with this number, or is left out if there is no number.
abbrev pub LoadsIn : Given → Option ℕ → Option (List ℕ) → FileLine → TabAgenda → TabAgenda → Type 0
LoadsIn g None file line old new = new ≡ old
LoadsIn g (Some zone) file line old new = LoadsLine (start_of g.zones zone g.clock g.t) file line old new

-- The entries of lines are added, each in the zone of the last `CRON_TZ` above it, or at first in
-- the zone `here`.
abbrev pub LoadsLines : Given → Option ℕ → Option (List ℕ) → List FileLine → TabAgenda → TabAgenda → Type 0
LoadsLines g here file [] old new = new ≡ old
LoadsLines g here file (line ∷ lines) old new =
    (between : TabAgenda) × LoadsIn g here file line old between
    × LoadsLines g (zone_below g.names here line.outcome) file lines between new

-- why the entry of a line can't be added in this zone
abbrev pub IsRefusedIn : Given → Option ℕ → FileLine → TabAgenda → AddError → Type 0
IsRefusedIn g None line old why = ⊥
IsRefusedIn g (Some zone) line old why = (new : Listed TabEntry) × AddsLine (start_of g.zones zone g.clock g.t) line old.agenda (Err why) new

-- why the entry of a line isn't loaded: it can't be added, or memory ran out
abbrev pub IsNotLoaded : Given → Option ℕ → FileLine → TabAgenda → AddError → Type 0
IsNotLoaded g here line old why = (why ≡ OutOfMemory) ⊎ IsRefusedIn g here line old why

-- The entry of one of the lines isn't loaded, for this reason, and the entries before it are.
abbrev pub FailsAt : Given → Option ℕ → Option (List ℕ) → List FileLine → TabAgenda → AddError → Type 0
FailsAt g here file [] old why = ⊥
FailsAt g here file (line ∷ lines) old why =
    IsNotLoaded g here line old why
    ⊎ ((between : TabAgenda) × LoadsIn g here file line old between × FailsAt g (zone_below g.names here line.outcome) file lines between why)
