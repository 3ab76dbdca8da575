-- The fires of a file's entries, taken from their agenda in one order. Instants are in nanoseconds
-- since 1970-01-01T00:00:00Z.
use Rattle.std.specs.Prelude.{◌≡◌, ◌<◌, ◌⊎◌, ◌++◌, ℕ, ℤ, Bool, List, [], ◌∷◌, map, length, Option, Some, None, Result, Ok, Err, ⊤}
use Rattle.jiff_tz.specs.declared.timezone.TimeZone.{TimeZone}
use Rattle.cron_agenda.specs.Entries.{ComesFirst, Listed, TakesDue}
use Rattle.cron_agenda.specs.Merged.{AllAscend, OwnFire, merged, own}
use Rattle.cron_agenda.specs.declared.entry.Entry.{Entry}
use Rattle.cron_agenda.specs.declared.error.ZoneMissing.{ZoneMissing}
use Rattle.cron_agenda.specs.declared.fire.AgendaFire.{AgendaFire}
use Rattle.cron_tab_agenda.specs.Tabs.{set_of}
use Rattle.cron_tab_agenda.specs.declared.error.ListError.{ListError}
use Rattle.cron_tab_agenda.specs.declared.error.ListError.TheVariants.{Zone, OutOfMemory}
use Rattle.cron_tab_agenda.specs.declared.listing.TabFire.{TabFire}
use Rattle.cron_tab_agenda.specs.declared.tab_entry.TabEntry.{TabEntry}

abbrev pub agenda_fire : TabFire → Bool → AgendaFire
agenda_fire f is_last = record { id = f.id; fire = f.fire; is_last = is_last }

-- the first of all fires that are left is taken: it is at or before the instant t, and has the line
-- of its entry
pub record IsTabTaken (zones : List TimeZone) (t : ℤ) (old : Listed TabEntry) (fire : TabFire) (new : Listed TabEntry) : Type 0 where
  pub entry : Entry TabEntry
  pub first : ComesFirst old.entries entry
  pub id : fire.id ≡ entry.id
  pub line : fire.line ≡ entry.table.line
  pub is_last : Bool
  pub taken : TakesDue set_of zones t old (Ok (Some (agenda_fire fire is_last))) new

-- The first fire is taken; or nothing is, since no fire is at or before t, or since the zone of the
-- first one isn't among the zones.
abbrev pub TakesTab : List TimeZone → ℤ → Listed TabEntry → Result (Option TabFire) ZoneMissing → Listed TabEntry → Type 0
TakesTab zones t old (Ok (Some fire)) new = IsTabTaken zones t old fire new
TakesTab zones t old (Ok None) new = TakesDue set_of zones t old (Ok None) new
TakesTab zones t old (Err why) new = TakesDue set_of zones t old (Err why) new

-- these fires were taken one after another
abbrev pub AreTaken : List TimeZone → ℤ → Listed TabEntry → List TabFire → Listed TabEntry → Type 0
AreTaken zones t old [] new = new ≡ old
AreTaken zones t old (fire ∷ fires) new = (between : Listed TabEntry) × IsTabTaken zones t old fire between × AreTaken zones t between fires new

abbrev pub own_of : TabFire → OwnFire
own_of fire = own fire.id fire.fire

-- the taken fires are the front of all fires that were left, in order, and the agenda has left what
-- follows it
abbrev pub AreTheFront : List TimeZone → Listed TabEntry → List TabFire → Listed TabEntry → Type 0
AreTheFront zones old fires new = merged set_of zones old.entries ≡ map own_of fires ++ merged set_of zones new.entries

-- Why the taking ends after `count` fires. No more are wanted, or none is at or before t. Or fewer
-- than `limit` were taken, and the zone of the next one isn't among the zones, or memory ran out.
abbrev pub EndsBy : List TimeZone → ℤ → ℕ → ℕ → Result ⊤ ListError → Listed TabEntry → Type 0
EndsBy zones t limit count (Ok done) new = (count ≡ limit) ⊎ TakesDue set_of zones t new (Ok None) new
EndsBy zones t limit count (Err (Zone why)) new = (count < limit) × TakesDue set_of zones t new (Err why) new
EndsBy zones t limit count (Err OutOfMemory) new = count < limit

-- At most `limit` fires at or before the instant t are taken and appended to the list: the front of
-- all that were left. The agenda has the rest, and nothing that was taken is lost.
pub record Lists (zones : List TimeZone) (t : ℤ) (limit : ℕ) (old : Listed TabEntry) (before : List TabFire) (answer : Result ⊤ ListError) (after : List TabFire) (new : Listed TabEntry) : Type 0 where
  pub more : List TabFire
  pub are : after ≡ before ++ more
  pub taken : AreTaken zones t old more new
  pub front : AllAscend set_of zones old.entries → AreTheFront zones old more new × AllAscend set_of zones new.entries
  pub ends : EndsBy zones t limit (length more) answer new
