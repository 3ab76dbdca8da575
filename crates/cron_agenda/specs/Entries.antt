-- The entries of an agenda, and what is added to them and taken from them.
use Rattle.std.specs.Prelude.{◌≡◌, ◌<◌, ◌≤◌, ℕ, ◌+◌, ◌-◌, ◌^◌, ℤ, pos, ◌*ℤ◌, Bool, true, false, not, ◌==◌, int_le, List, [], ◌∷◌, ◌++◌, filter, slice_get, Option, Some, None, MatchOption, Result, Ok, Err, ⊤, max}
use Rattle.std.specs.declared.alloc.AllocError.{AllocError}
use Rattle.std.specs.List.{list_any}
use Rattle.std.specs.Option.{is_none}
use Rattle.jiff_tz.specs.declared.timezone.TimeZone.{TimeZone}
use Rattle.cron_time.specs.Seconds.{Seconds}
use Rattle.cron_instants.specs.Order.{comes_before}
use Rattle.cron_seconds.specs.Rules.{IsFirstOf}
use Rattle.cron_agenda.specs.declared.entry.Entry.{Entry}
use Rattle.cron_agenda.specs.declared.fire.EntryFire.{EntryFire}
use Rattle.cron_agenda.specs.declared.fire.AgendaFire.{AgendaFire}
use Rattle.cron_agenda.specs.declared.error.AddError.{AddError}
use Rattle.cron_agenda.specs.declared.error.AddError.TheVariants.{NoZone, NoFires, NoIds, OutOfMemory}
use Rattle.cron_agenda.specs.declared.error.ZoneMissing.{ZoneMissing}
use Rattle.cron_agenda.specs.Fires.{fires_past, instant}

-- an agenda: its entries in the order in which they were added, each with the fire that comes next, how many were ever added, and
-- how many more have their memory already
pub record Listed (T : Type 0) : Type 0 where
  pub entries : List (Entry T)
  pub added : ℕ
  pub room : ℕ

abbrev pub listed : {T : Type 0} → List (Entry T) → ℕ → ℕ → Listed T
listed entries added room = record { entries = entries; added = added; room = room }

-- an agenda with these entries in place of its own
abbrev pub with_entries : {T : Type 0} → List (Entry T) → Listed T → Listed T
with_entries entries a = listed entries a.added a.room

abbrev pub entry : {T : Type 0} → ℕ → T → ℕ → EntryFire → Entry T
entry id table zone fire = record { id = id; table = table; zone = zone; fire = fire }

-- an entry comes before another: by the instant of its next fire, and if they share it by id
abbrev pub is_before : {T : Type 0} → Entry T → Entry T → Bool
is_before a b = comes_before (instant a.fire) a.id (instant b.fire) b.id

-- whether one of the entries has this id
abbrev pub has : {T : Type 0} → ℕ → List (Entry T) → Bool
has id es = list_any (λ e. e.id == id) es

-- the entries but for the one with this id
abbrev pub without : {T : Type 0} → ℕ → List (Entry T) → List (Entry T)
without id es = filter (λ e. not (e.id == id)) es

-- the entry with this id; `None` exactly if there is none
abbrev pub IsEntryOf : {T : Type 0} → ℕ → List (Entry T) → Option (Entry T) → Type 0
IsEntryOf id es answer = MatchOption answer (has id es ≡ false) (λ e. (e.id ≡ id) × ((i : ℕ) × (slice_get es i ≡ Some e)))

-- the ids ascend, from low on, and none is as great as high
abbrev pub HaveIds : {T : Type 0} → ℕ → List (Entry T) → ℕ → Type 0
HaveIds low [] high = low ≤ high
HaveIds low (e ∷ es) high = (low ≤ e.id) × HaveIds (e.id + 1) es high

-- an entry comes before each entry of a list
abbrev pub IsBeforeAll : {T : Type 0} → Entry T → List (Entry T) → Type 0
IsBeforeAll e [] = Unit {0}
IsBeforeAll e (o ∷ es) = (is_before e o ≡ true) × IsBeforeAll e es

-- one of the entries comes before all the others
pub record ComesFirst {T : Type 0} (es : List (Entry T)) (e : Entry T) : Type 0 where
  pub before : List (Entry T)
  pub after : List (Entry T)
  pub is : es ≡ before ++ e ∷ after
  pub others : IsBeforeAll e (before ++ after)

-- the entry that comes first; `None` exactly if there are no entries
abbrev pub IsFirstEntry : {T : Type 0} → List (Entry T) → Option (Entry T) → Type 0
IsFirstEntry es answer = MatchOption answer (es ≡ []) (ComesFirst es)

-- the entry with another next fire; no entry if there is no such fire
abbrev pub gone_on : {T : Type 0} → Entry T → Option EntryFire → List (Entry T)
gone_on e None = []
gone_on e (Some fire) = entry e.id e.table e.zone fire ∷ []

-- The fire of the entry that comes first is taken. The entry goes on to its next fire in its zone, and is removed where it has none.
pub record IsTaken {T : Type 0} (has : T → Seconds) (zones : List TimeZone) (old : List (Entry T)) (taken : AgendaFire) (new : List (Entry T)) : Type 0 where
  pub entry : Entry T
  pub first : ComesFirst old entry
  pub zone : TimeZone
  pub lent : slice_get zones entry.zone ≡ Some zone
  pub next : Option EntryFire
  pub goes_on : IsFirstOf (fires_past (has entry.table) zone entry.fire) (fires_past (has entry.table) zone) next
  pub is : taken ≡ record { id = entry.id; fire = entry.fire; is_last = is_none next }
  pub now : new ≡ first.before ++ (gone_on entry next ++ first.after)

-- Nothing is taken, since the zone of the entry that comes first isn't among those lent.
pub record LacksZone {T : Type 0} (zones : List TimeZone) (old : List (Entry T)) (why : ZoneMissing) : Type 0 where
  pub entry : Entry T
  pub first : ComesFirst old entry
  pub id : why.id ≡ entry.id
  pub missing : slice_get zones entry.zone ≡ None

-- the next fire of all entries is taken; `None` if there are no entries, and an error if the zone
-- is missing
abbrev pub TakesNext : {T : Type 0} → (T → Seconds) → List TimeZone → Listed T → Result (Option AgendaFire) ZoneMissing → Listed T → Type 0
TakesNext has zones old (Ok None) new = (old.entries ≡ []) × (new ≡ old)
TakesNext has zones old (Ok (Some taken)) new = IsTaken has zones old.entries taken new.entries × (new.added ≡ old.added) × (new.room ≡ old.room)
TakesNext has zones old (Err why) new = LacksZone zones old.entries why × (new ≡ old)

-- the instant of the entry's next fire is t, which is in nanoseconds since 1970, or comes before it
abbrev pub is_by : {T : Type 0} → ℤ → Entry T → Bool
is_by t e = int_le (instant e.fire *ℤ pos 1_000_000_000) t

-- the next fire of all entries is taken if it is due by t. `None` if none is due, and an error if
-- one is due but its zone is missing
abbrev pub TakesDue : {T : Type 0} → (T → Seconds) → List TimeZone → ℤ → Listed T → Result (Option AgendaFire) ZoneMissing → Listed T → Type 0
TakesDue has zones t old (Ok None) new = (filter (is_by t) old.entries ≡ []) × (new ≡ old)
TakesDue has zones t old (Ok (Some taken)) new =
    TakesNext has zones old (Ok (Some taken)) new × (int_le (instant taken.fire *ℤ pos 1_000_000_000) t ≡ true)
TakesDue has zones t old (Err why) new = (lacks : LacksZone zones old.entries why) × (is_by t lacks.entry ≡ true) × (new ≡ old)

-- Why nothing was added. The zone is missing, it has none of the fires, no id is left of 2^64 - 1,
-- or an id is left but no memory was taken before.
abbrev pub IsRefused : List TimeZone → ℕ → (TimeZone → List EntryFire) → ℕ → ℕ → AddError → Type 0
IsRefused zones zone fires added room NoZone = slice_get zones zone ≡ None
IsRefused zones zone fires added room NoFires = (z : TimeZone) × (slice_get zones zone ≡ Some z) × (fires z ≡ [])
IsRefused zones zone fires added room NoIds = added ≡ 2 ^ 64 - 1
IsRefused zones zone fires added room OutOfMemory = (added < 2 ^ 64 - 1) × (room ≡ 0)

-- An entry is added whose fires these are in the zone with this number, under the next id; or nothing changes.
abbrev pub Adds : {T : Type 0} → (T → Seconds) → List TimeZone → T → ℕ → (TimeZone → List EntryFire) → Listed T → Result ℕ AddError → Listed T → Type 0
Adds has zones table zone fires old (Ok id) new =
    (z : TimeZone) × (fire : EntryFire) × (slice_get zones zone ≡ Some z) × (fires z ≡ fire ∷ fires_past (has table) z fire)
    × (id ≡ old.added) × (new ≡ listed (old.entries ++ entry id table zone fire ∷ []) (old.added + 1) (old.room - 1)) × (old.added < 2 ^ 64 - 1)
Adds has zones table zone fires old (Err why) new = IsRefused zones zone fires old.added old.room why × (new ≡ old)

-- Memory is taken for `additional` more entries; or nothing changes.
abbrev pub Reserves : {T : Type 0} → ℕ → Listed T → Result ⊤ AllocError → Listed T → Type 0
Reserves additional old (Ok done) new = new ≡ listed old.entries old.added (max old.room additional)
Reserves additional old (Err why) new = new ≡ old
