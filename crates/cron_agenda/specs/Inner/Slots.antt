-- Slots of entries. One whose entry is gone stays for a while, and has no fire.
use Rattle.std.specs.Prelude.{◌≡◌, ℕ, ◌+◌, ◌-◌, ◌^◌, ◌⊎◌, ◌<◌, ◌≤◌, ℤ, Result, Ok, Err, Option, Some, None, IfSome, MatchOption, List, [], ◌∷◌, ◌++◌, length, map, slice_get}
use Rattle.std.specs.Option.{option_map}
use Rattle.cron_agenda.specs.declared.entry.Entry.{Entry}
use Rattle.cron_agenda.specs.declared.fire.EntryFire.{EntryFire}
use Rattle.cron_agenda.specs.declared.slots.Slot.{Slot}
use Rattle.cron_agenda.specs.declared.error.AddError.{AddError}
use Rattle.cron_agenda.specs.declared.error.AddError.TheVariants.{NoIds, OutOfMemory}
use Rattle.jiff_tz.specs.declared.timezone.TimeZone.{TimeZone}
use Rattle.cron_time.specs.Seconds.{Seconds}
use Rattle.cron_fires.specs.Matches.{Matches}
use Rattle.cron_seconds.specs.Rules.{IsFirstOf}
use Rattle.cron_agenda.specs.Entries.{Listed, listed, entry}
use Rattle.cron_agenda.specs.Fires.{civil_second, fires_past, instant}

abbrev pub entry_when : {T : Type 0} → ℕ → T → ℕ → Option EntryFire → List (Entry T)
entry_when id table zone None = []
entry_when id table zone (Some fire) = entry id table zone fire ∷ []

abbrev pub entry_of : {T : Type 0} → Slot T → List (Entry T)
entry_of s = entry_when s.id s.table s.zone s.head

-- the entries of the slots that have a fire
abbrev pub entries_of : {T : Type 0} → List (Slot T) → List (Entry T)
entries_of [] = []
entries_of (s ∷ ss) = entry_of s ++ entries_of ss

-- the instant of the slot's next fire; `None` if its entry is gone
abbrev pub instant_of : {T : Type 0} → Slot T → Option ℤ
instant_of s = option_map instant s.head

-- the ids ascend, and none is less than low or as great as high
abbrev pub IdsAscend : {T : Type 0} → ℕ → List (Slot T) → ℕ → Type 0
IdsAscend low [] high = low ≤ high
IdsAscend low (s ∷ ss) high = (low ≤ s.id) × IdsAscend (s.id + 1) ss high

-- The slots stand in three parts: those that are packed at the front, some that are left over, and
-- those that a sweep has still to scan. The ids ascend over the first and the last part. The slots
-- between have no fire, and their ids mean nothing.
pub record AreInParts {T : Type 0} (slots : List (Slot T)) (packed scanned added : ℕ) : Type 0 where
  pub front : List (Slot T)
  pub between : List (Slot T)
  pub rest : List (Slot T)
  pub are : slots ≡ front ++ (between ++ rest)
  pub packed_are : length front ≡ packed
  pub scanned_are : length front + length between ≡ scanned
  pub ids : IdsAscend 0 (front ++ rest) added
  pub none : entries_of between ≡ []

-- what an agenda keeps of its slots is true: their instants, their parts, and how many have an
-- entry
pub record IsKept {T : Type 0} (slots : List (Slot T)) (firsts : List (Option ℤ)) (live added packed scanned : ℕ) : Type 0 where
  pub keys : firsts ≡ map instant_of slots
  pub parts : AreInParts slots packed scanned added
  pub count : live ≡ length (entries_of slots)

-- the first of some fires of a set in a zone, so that the others are those past it; it is at a
-- match
abbrev pub IsFirstFire : Seconds → TimeZone → List EntryFire → Option EntryFire → Type 0
IsFirstFire s z fires answer = IsFirstOf fires (fires_past s z) answer × IfSome answer (λ fire. Matches s (civil_second fire))

-- the first of the fires of a set past a fire, which is at a match; `None` exactly if there is none
abbrev pub IsNextFire : Seconds → TimeZone → EntryFire → Option EntryFire → Type 0
IsNextFire s z fire answer = IsFirstFire s z (fires_past s z fire) answer

-- the next fire of each entry is at a match of its table
abbrev pub FiresMatch : {T : Type 0} → (T → Seconds) → List (Slot T) → Type 0
FiresMatch {T} has slots =
    (i : ℕ) (s : Slot T) (fire : EntryFire) → slice_get slots i ≡ Some s → s.head ≡ Some fire → Matches (has s.table) (civil_second fire)

-- there is memory for `room` more entries, in the slots and in the places
abbrev pub HasRoom : ℕ → ℕ → ℕ → ℕ → Type 0
HasRoom len capacity places room = (room + len ≤ capacity) × (room ≤ places)

-- the slot at a place has this id, and a fire
pub record HasEntry {T : Type 0} (slots : List (Slot T)) (id place : ℕ) : Type 0 where
  pub slot : Slot T
  pub fire : EntryFire
  pub here : slice_get slots place ≡ Some slot
  pub same : slot.id ≡ id
  pub live : slot.head ≡ Some fire

-- the place of the slot with this id and a fire; if the ids ascend, `None` exactly if there is no
-- such slot
abbrev pub IsPlaceOf : {T : Type 0} → List (Slot T) → ℕ → Option ℕ → Type 0
IsPlaceOf slots id answer =
    MatchOption answer ((high : ℕ) → IdsAscend 0 slots high → (p : ℕ) → HasEntry slots id p → ⊥) (HasEntry slots id)

-- the place of the slot with this id and a fire, in slots of three parts: packed ones, some left
-- over, and those to scan. `None` exactly if there is no such slot
abbrev pub IsPlaceInParts : {T : Type 0} → List (Slot T) → ℕ → ℕ → ℕ → Option ℕ → Type 0
IsPlaceInParts slots packed scanned id answer =
    MatchOption answer ((added : ℕ) → AreInParts slots packed scanned added → (p : ℕ) → HasEntry slots id p → ⊥) (HasEntry slots id)

-- the slot's entry; `None` exactly if it has no fire
abbrev pub IsOwn : {T : Type 0} → Slot T → Option (Entry T) → Type 0
IsOwn s answer = MatchOption answer (s.head ≡ None) (λ e. (s.head ≡ Some e.fire) × (e ≡ entry s.id s.table s.zone e.fire))

-- an entry is added with this next fire; or nothing changes, for want of ids or of memory that wasn't there already
abbrev pub Inserts : {T : Type 0} → T → ℕ → EntryFire → Listed T → Result ℕ AddError → Listed T → Type 0
Inserts table zone fire old (Ok id) new =
    (id ≡ old.added) × (new ≡ listed (old.entries ++ entry id table zone fire ∷ []) (old.added + 1) (old.room - 1)) × (old.added < 2 ^ 64 - 1)
Inserts table zone fire old (Err why) new =
    (((why ≡ NoIds) × (old.added ≡ 2 ^ 64 - 1)) ⊎ ((why ≡ OutOfMemory) × (old.added < 2 ^ 64 - 1) × (old.room ≡ 0))) × (new ≡ old)
