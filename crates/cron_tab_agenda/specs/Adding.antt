-- What the lines of a file add to an agenda. Instants are in nanoseconds since
-- 1970-01-01T00:00:00Z.
use Rattle.std.specs.Prelude.{◌≡◌, ◌⊎◌, ℕ, ℤ, List, [], ◌∷◌, take, Option, Some, None, Result, Ok, Err, ⊤, if◌then◌else◌}
use Rattle.std.specs.Str.Lossy.{utf8_valid_len}
use Rattle.jiff_tz.specs.declared.timezone.TimeZone.{TimeZone}
use Rattle.cron_tab_lines.specs.Files.{FileLine}
use Rattle.cron_tab_lines.specs.Zones.{zone_below}
use Rattle.cron_tab_lines.specs.declared.zones.NamedZone.{NamedZone}
use Rattle.cron_tab_warnings.specs.Clocks.{follows_clock}
use Rattle.cron_agenda.specs.Entries.{Adds, Listed}
use Rattle.cron_agenda.specs.Fires.{fires_after}
use Rattle.cron_agenda.specs.declared.error.AddError.{AddError}
use Rattle.cron_agenda.specs.declared.error.AddError.TheVariants.{NoFires}
use Rattle.cron_fires.specs.declared.changes.ClockChanges.{ClockChanges}
use Rattle.cron_fires.specs.declared.changes.ClockChanges.TheVariants.{AsShown, Once}
use Rattle.cron_tab_agenda.specs.Tabs.{IsTab, schedules_in, set_of}
use Rattle.cron_tab_agenda.specs.declared.tab_entry.TabEntry.{TabEntry}
use Rattle.cron_tab_agenda.specs.declared.adding.Clock.{Clock}
use Rattle.cron_tab_agenda.specs.declared.adding.Clock.TheVariants.{Own, Chosen}
use Rattle.cron_tab_agenda.specs.declared.error.LineError.{LineError}
use Rattle.cron_tab_agenda.specs.declared.error.LineError.TheVariants.{ZoneLine, NotAdded}

-- an entry's own rule: one that follows the clock fires each time that it shows a match, every
-- other one once for each
abbrev pub own_changes : List ℕ → ClockChanges
own_changes text = if follows_clock text then AsShown else Once

-- the rule of a line's entry: its own, by the line's front that is UTF-8, or the one that the
-- caller chose
abbrev pub changes_of : Clock → List ℕ → ClockChanges
changes_of Own bytes = own_changes (take (utf8_valid_len bytes) bytes)
changes_of (Chosen changes) bytes = changes

-- where, from when on and by which rule entries fire: in the zone with this number, after the instant t
pub record Start : Type 0 where
  pub zones : List TimeZone
  pub zone : ℕ
  pub clock : Clock
  pub t : ℤ

abbrev pub start_of : List TimeZone → ℕ → Clock → ℤ → Start
start_of zones zone clock t = record { zones = zones; zone = zone; clock = clock; t = t }

-- the agenda adds an entry with the civil seconds of `table`, by the rule `changes`; or it can't
abbrev pub AddsTab : Start → ClockChanges → TabEntry → Listed TabEntry → Result ℕ AddError → Listed TabEntry → Type 0
AddsTab s changes table = Adds set_of s.zones table s.zone (λ z. fires_after (set_of table) z changes s.t)

-- The entry is added and has the id; or nothing is, since it never fires again; or it can't be
-- added, for a reason.
abbrev pub AddsEntry : Start → ClockChanges → TabEntry → Listed TabEntry → Result (Option ℕ) AddError → Listed TabEntry → Type 0
AddsEntry s changes table old (Ok (Some id)) new = AddsTab s changes table old (Ok id) new
AddsEntry s changes table old (Ok None) new = AddsTab s changes table old (Err NoFires) new
AddsEntry s changes table old (Err NoFires) new = ⊥
AddsEntry s changes table old (Err why) new = AddsTab s changes table old (Err why) new

-- The line's entry is added, with the line's number; a line without an entry that a clock fires
-- changes nothing.
abbrev pub AddsLine : Start → FileLine → Listed TabEntry → Result (Option ℕ) AddError → Listed TabEntry → Type 0
AddsLine s line old answer new =
    ((schedules_in line.outcome ≡ None) × (answer ≡ Ok None) × (new ≡ old))
    ⊎ ((table : TabEntry) × IsTab line table × AddsEntry s (changes_of s.clock line.bytes) table old answer new)

-- a start with another zone, as after a line that names it
abbrev pub start_below : Start → ℕ → Start
start_below s zone = start_of s.zones zone s.clock s.t

-- the adding ends at this line, since it names no zone of the list, or its entry can't be added
abbrev pub EndsAt : Start → List NamedZone → FileLine → Listed TabEntry → LineError → Listed TabEntry → Type 0
EndsAt s names line old (ZoneLine number) new = (number ≡ line.number) × (zone_below names (Some s.zone) line.outcome ≡ None) × (new ≡ old)
EndsAt s names line old (NotAdded number why) new = (number ≡ line.number) × AddsLine s line old (Err why) new

-- The entries of lines are added one after another, each in the zone of the last `CRON_TZ` above
-- it. All are; or it ends at one of the lines, and the entries of the lines before it were added.
abbrev pub AddsLines : Start → List NamedZone → List FileLine → Listed TabEntry → Result ⊤ LineError → Listed TabEntry → Type 0
AddsLines s names [] old (Ok done) new = new ≡ old
AddsLines s names [] old (Err error) new = ⊥
AddsLines s names (line ∷ lines) old (Ok done) new =
    (zone : ℕ) × (answer : Option ℕ) × (between : Listed TabEntry) × (zone_below names (Some s.zone) line.outcome ≡ Some zone)
    × AddsLine s line old (Ok answer) between × AddsLines (start_below s zone) names lines between (Ok done) new
AddsLines s names (line ∷ lines) old (Err error) new =
    EndsAt s names line old error new
    ⊎ ((zone : ℕ) × (answer : Option ℕ) × (between : Listed TabEntry) × (zone_below names (Some s.zone) line.outcome ≡ Some zone)
    × AddsLine s line old (Ok answer) between × AddsLines (start_below s zone) names lines between (Err error) new)
