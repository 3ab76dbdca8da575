-- The entries of a crontab's lines, each with its fires.
use Rattle.std.specs.Prelude.{◌++◌, ℕ, ℤ, List, [], ◌∷◌, Option, Some, None, map, slice_get}
use Rattle.jiff_tz.specs.declared.timezone.TimeZone.{TimeZone}
use Rattle.cron_units.specs.Sets.{Sets}
use Rattle.cron_agenda.specs.Fires.{instant}
use Rattle.cron_agenda.specs.declared.fire.EntryFire.{EntryFire}
use Rattle.cron_tab_lines.specs.Files.{FileLine}
use Rattle.cron_tab_lines.specs.Views.{bytes_view}
use Rattle.cron_tab_lines.specs.Zones.{zone_below}
use Rattle.cron_tab_lines.specs.declared.zones.NamedZone.{NamedZone}
use Rattle.cron_tab_agenda.specs.Adding.{changes_of}
use Rattle.cron_tab_agenda.specs.Tabs.{schedules_in}
use Rattle.cron_tab_agenda.specs.declared.adding.Clock.{Clock}
use Rattle.cron_unions.specs.Unions.{any_of}
use Rattle.cron_tab_fires.specs.Fires.{fires_between}
use Rattle.cron_tab_fires.specs.declared.entries.Asked.{Asked}
use Rattle.cron_tab_fires.specs.declared.entries.TabFires as code

-- an entry: its file's name, if one is given, the number of its line, and its fires
pub record TabFires : Type 0 where
  pub file : Option (List ℕ)
  pub line : ℕ
  pub fires : List EntryFire

abbrev pub view : code.TabFires → TabFires
view e = record { file = bytes_view e.file; line = e.line; fires = e.fires.items }

-- the instants of an entry's fires, in seconds since 1970
abbrev pub seconds : TabFires → List ℤ
seconds e = map instant e.fires

-- Where and by which rule entries fire, and which fires are listed: after the instant t, up to and
-- including u. Both are in nanoseconds since 1970.
pub record Given : Type 0 where
  pub zones : List TimeZone
  pub names : List NamedZone
  pub clock : Clock
  pub t : ℤ
  pub u : ℤ

abbrev pub given : List TimeZone → Asked → Given
given zones a = record { zones = zones; names = a.names.now; clock = a.clock; t = a.start.nanosecond; u = a.end.nanosecond }

-- the entry of a line with these schedules in a zone, with its fires
abbrev pub entry_of : Given → Option (List ℕ) → FileLine → List Sets → TimeZone → TabFires
entry_of g file line ss z = record { file = file; line = line.number; fires = fires_between (any_of ss) z (changes_of g.clock line.bytes) g.t g.u }

-- the entry of a line, if it has schedules and a zone, else nothing
abbrev pub entry_if : Given → Option (List ℕ) → FileLine → Option (List Sets) → Option TimeZone → List TabFires
entry_if g file line (Some ss) (Some z) = entry_of g file line ss z ∷ []
entry_if g file line _ _ = []

-- the entry of a line in the zone with this number; nothing if the line is no entry that a clock
-- fires, or there is no such zone
abbrev pub entry_at : Given → Option (List ℕ) → FileLine → ℕ → List TabFires
entry_at g file line number = entry_if g file line (schedules_in line.outcome) (slice_get g.zones number)

-- the entry of a line in the zone with this number, and nothing without a number
abbrev pub entry_in : Given → Option (List ℕ) → FileLine → Option ℕ → List TabFires
entry_in g file line None = []
entry_in g file line (Some number) = entry_at g file line number

-- the entries of lines, each in the zone of the last `CRON_TZ` above it; `here` is the zone of the
-- first line
abbrev pub entries_in : Given → Option (List ℕ) → Option ℕ → List FileLine → List TabFires
entries_in g file here [] = []
entries_in g file here (line ∷ lines) = entry_in g file line here ++ entries_in g file (zone_below g.names here line.outcome) lines
