-- Which of the fires that are due are run, and which are passed over.
use Rattle.std.specs.Prelude.{◌≡◌, ℕ, ℤ, pos, ◌+ℤ◌, ◌*ℤ◌, Bool, true, not, ◌&&◌, ◌==◌, int_le, List, Some, Ok}
use Rattle.std.specs.List.{list_any}
use Rattle.jiff_tz.specs.declared.timezone.TimeZone.{TimeZone}
use Rattle.cron_time.specs.Seconds.{Seconds}
use Rattle.cron_agenda.specs.declared.entry.Entry.{Entry}
use Rattle.cron_agenda.specs.declared.fire.AgendaFire.{AgendaFire}
use Rattle.cron_agenda.specs.declared.fire.EntryFire.{EntryFire}
use Rattle.cron_agenda.specs.Entries.{ComesFirst, Listed, TakesDue, is_by}
use Rattle.cron_agenda.specs.Fires.{instant}
use Rattle.cron_agenda_scheduler.specs.declared.lateness.Lateness.{Lateness}
use Rattle.cron_agenda_scheduler.specs.declared.lateness.Lateness.TheVariants.{Each, Within, Latest}

-- what tables fire, how late that may be run, and the zones that are lent
pub record Tables (T : Type 0) : Type 0 where
  pub has : T → Seconds
  pub lateness : T → Lateness
  pub zones : List TimeZone

abbrev pub tables : {T : Type 0} → (T → Seconds) → (T → Lateness) → List TimeZone → Tables T
tables has lateness zones = record { has = has; lateness = lateness; zones = zones }

-- the time t, in nanoseconds since 1970, is at most `seconds` after the fire's instant
abbrev pub is_within : ℕ → ℤ → EntryFire → Bool
is_within seconds t fire = int_le t ((instant fire +ℤ pos seconds) *ℤ pos 1_000_000_000)

-- one of the entries has this id, and its next fire is due by t
abbrev pub has_due : {T : Type 0} → ℤ → ℕ → List (Entry T) → Bool
has_due t id es = list_any (λ e. e.id == id && is_by t e) es

-- whether a fire that was taken at the time t is run, by the lateness of its entry and by the entries as they are then
abbrev pub is_run : {T : Type 0} → Lateness → ℤ → AgendaFire → List (Entry T) → Bool
is_run Each t f es = true
is_run (Within seconds) t f es = is_within seconds t f.fire
is_run Latest t f es = not (has_due t f.id es)

-- the first fire that was due by t was taken, and `run` says whether it is run
pub record IsPicked {T : Type 0} (ts : Tables T) (t : ℤ) (a : Listed T) (f : AgendaFire) (run : Bool) (b : Listed T) : Type 0 where
  pub takes : TakesDue ts.has ts.zones t a (Ok (Some f)) b
  pub entry : Entry T
  pub first : ComesFirst a.entries entry
  pub told : run ≡ is_run (ts.lateness entry.table) t f b.entries
