-- What the entries of crontabs missed.
use Rattle.std.specs.Prelude.{◌++◌, ℕ, ℤ, List, [], ◌∷◌, Option, Some, None, Result, Ok, if◌then◌else◌, slice_get}
use Rattle.jiff_tz.specs.declared.timezone.TimeZone.{TimeZone}
use Rattle.cron_agenda.specs.declared.fire.EntryFire.{EntryFire}
use Rattle.cron_fires.specs.declared.changes.ClockChanges.{ClockChanges}
use Rattle.cron_tab_agenda.specs.Adding.{changes_of}
use Rattle.cron_tab_agenda.specs.Tabs.{schedules_by}
use Rattle.cron_tab_agenda.specs.declared.adding.Clock.{Clock}
use Rattle.cron_tab_agenda.specs.declared.tab_file.TabFile.{TabFile}
use Rattle.cron_tab_fires.specs.Fires.{fires_between}
use Rattle.cron_tab_lines.specs.Entries as lines
use Rattle.cron_tab_lines.specs.Files.{FileLine, file_lines, without_feed}
use Rattle.cron_tab_lines.specs.Lines.{Meaning, entry}
use Rattle.cron_tab_lines.specs.Refusals.{Refusal}
use Rattle.cron_tab_lines.specs.Views.{bytes_view}
use Rattle.cron_tab_lines.specs.Zones.{zone_below}
use Rattle.cron_tab_lines.specs.declared.zones.NamedZone.{NamedZone}
use Rattle.cron_tab_rows.specs.Sources as sources
use Rattle.cron_tab_rows.specs.Sources.{Source, source_of}
use Rattle.cron_tab_running.specs.Noted.{Noted, is_noted, noted_view, zone_name}
use Rattle.cron_unions.specs.Unions.{any_of}
use Rattle.cron_units.specs.Sets.{Sets}
use Rattle.cron_tab_missed.specs.Missed.{missed_of}
use Rattle.cron_tab_missed.specs.declared.counting.Ends.{Ends}
use Rattle.cron_tab_missed.specs.declared.counting.Missed.{Missed}
use Rattle.cron_tab_missed.specs.declared.entries.Asked.{Asked}
use Rattle.cron_tab_missed.specs.declared.entries.Since as code
use Rattle.cron_tab_missed.specs.declared.entries.Since.TheVariants.{After, Noted as ByNote}
use Rattle.cron_tab_missed.specs.declared.entries.TabMissed as code_entry

-- From when on fires count: after an instant, in nanoseconds since 1970, or after that of a note,
-- for the entries that it notes.
pub data Since : Type 0 where
  after : ℤ → Since
  noted : Noted → Since

abbrev pub since_view : code.Since → Since
since_view (After t) = after t.nanosecond
since_view (ByNote n) = noted (noted_view n.now)

-- an entry: its file and what it runs, the number of its line, and what it missed
pub record TabMissed : Type 0 where
  pub source : Source
  pub line : ℕ
  pub missed : Missed

-- the first and the last of missed fires, as the code lists them
abbrev pub ends_in : List EntryFire → Option Ends
ends_in (f ∷ g ∷ []) = Some (record { first = f; last = g })
ends_in _ = None

abbrev pub view : code_entry.TabMissed → TabMissed
view e = record { source = sources.view e.source; line = e.line; missed = record { count = e.count; ends = ends_in e.ends.items } }

-- Where and by which rule entries fire, from when on their fires count, and up to and with which
-- instant, in nanoseconds since 1970.
pub record Given : Type 0 where
  pub zones : List TimeZone
  pub names : List NamedZone
  pub clock : Clock
  pub since : Since
  pub until : ℤ

abbrev pub given : List TimeZone → Asked → Given
given zones a = record { zones = zones; names = a.names.now; clock = a.clock; since = since_view a.since; until = a.until.nanosecond }

-- The instant after which the fires of an entry count that comes after those of `before`. None if
-- it isn't noted, and so misses nothing.
abbrev pub start_of : Since → List (List ℕ) → List ℕ → Option ℤ
start_of (after t) before key = Some t
start_of (noted n) before key = if is_noted n.entries before key then Some n.until else None

-- the fires of schedules after an instant, up to and including u; none without an instant, and none
-- of `@reboot`, which has no schedules
abbrev pub fires_since : TimeZone → ClockChanges → Option (List Sets) → Option ℤ → ℤ → List EntryFire
fires_since z changes (Some ss) (Some t) u = fires_between (any_of ss) z changes t u
fires_since z changes _ _ u = []

-- what a note knows an entry by: its zone as `CRON_TZ` names it, a tab, and its line
abbrev pub key_of : Given → ℕ → FileLine → List ℕ
key_of g number line = zone_name g.names number ++ 9 ∷ without_feed line.bytes

-- the entries so far, each with its key
pub record Found : Type 0 where
  pub keys : List (List ℕ)
  pub entries : List TabMissed

abbrev pub nothing : Found
nothing = record { keys = []; entries = [] }

-- a line's entry, with what it missed in its zone since this instant
abbrev pub entry_of : Given → Option (List ℕ) → FileLine → lines.Entry → TimeZone → Option ℤ → TabMissed
entry_of g file line e z start =
    record {
      source = source_of file e;
      line = line.number;
      missed = missed_of (fires_since z (changes_of g.clock line.bytes) (schedules_by e.meaning) start g.until);
    }

-- the entries with that of one more line, if it is one and has a zone
abbrev pub with_entry : Given → Option (List ℕ) → Found → FileLine → ℕ → Result Meaning Refusal → Option TimeZone → Found
with_entry g file found line number (Ok (entry e)) (Some z) =
    record {
      keys = found.keys ++ key_of g number line ∷ [];
      entries = found.entries ++ entry_of g file line e z (start_of g.since found.keys (key_of g number line)) ∷ [];
    }
with_entry g file found line number _ _ = found

-- the entries with that of one more line, in the zone with the number `here`
abbrev pub with_line : Given → Option (List ℕ) → Found → FileLine → Option ℕ → Found
with_line g file found line None = found
with_line g file found line (Some number) = with_entry g file found line number line.outcome (slice_get g.zones number)

-- the entries with those of more lines, each in the zone of the last `CRON_TZ` above it
abbrev pub with_lines : Given → Option (List ℕ) → Found → Option ℕ → List FileLine → Found
with_lines g file found here [] = found
with_lines g file found here (line ∷ lines) = with_lines g file (with_line g file found line here) (zone_below g.names here line.outcome) lines

-- the entries with those of more crontabs, one file after another
abbrev pub with_files : Given → Found → List TabFile → Found
with_files g found [] = found
with_files g found (f ∷ files) = with_files g (with_lines g (bytes_view f.name) found (Some 0) (file_lines f.kind f.bytes.now)) files
