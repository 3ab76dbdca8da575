-- What holds of the fires that entries have left, merged.
use Rattle.std.specs.Prelude.{◌≡◌, ℕ, ◌<◌, ℤ, false, Some, None, List, [], ◌∷◌, ◌++◌, Result, Ok, Err, map, slice_get}
use Rattle.std.specs.List.Sorted.{IsPermutation}
use Rattle.jiff_tz.specs.declared.timezone.TimeZone.{TimeZone}
use Rattle.cron_time.specs.Seconds.{Seconds}
use Rattle.cron_agenda.specs.declared.entry.Entry.{Entry}
use Rattle.cron_agenda.specs.declared.error.AddError.{AddError}
use Rattle.cron_agenda.specs.declared.error.AddError.TheVariants.{NoFires}
use Rattle.cron_agenda.specs.declared.fire.AgendaFire.{AgendaFire}
use Rattle.cron_fires.specs.declared.changes.ClockChanges.{ClockChanges}
use Rattle.cron_agenda.specs.declared.fire.EntryFire.{EntryFire}
use Rattle.cron_agenda.specs.Entries.{Adds, HaveIds, IsTaken, Listed, entry, without}
use Rattle.cron_agenda.specs.Fires.{fires_after, fires_past}
use Rattle.cron_agenda.specs.Merged.{AllAscend, AreTaken, Ascend, HasAll, IsAnew, OwnFire, all_of, in_order, last_of, left, left_behind, merged, own, own_of, owned, precedes, renamed, rest_in}

-- Where the fires of each entry ascend, the fire that is taken is the first of the merged fires,
-- and the others are left. The fires of each entry ascend then too.
abbrev pub TakenIsTheFirst : {T : Type 0} → (T → Seconds) → Type 0
TakenIsTheFirst {T} has =
    (zones : List TimeZone) (old : List (Entry T)) (taken : AgendaFire) (new : List (Entry T))
    → AllAscend has zones old
    → IsTaken has zones old taken new
    → (merged has zones old ≡ own taken.id taken.fire ∷ merged has zones new) × AllAscend has zones new

-- The fires of a set after an instant ascend, and so do those past a fire.
pub record FiresAscend : Type 0 where
  pub after : (s : Seconds) (z : TimeZone) (changes : ClockChanges) (t : ℤ) → Ascend (fires_after s z changes t)
  pub past : (s : Seconds) (z : TimeZone) (last : EntryFire) → Ascend (fires_past s z last)

-- The fires of each entry ascend in the zones in which all were added: with no entry, with one
-- more, and with one less.
pub record EntriesAscend {T : Type 0} (has : T → Seconds) (zones : List TimeZone) : Type 0 where
  pub none : AllAscend has zones []
  pub more :
      (table : T) (zone : ℕ) (fires : TimeZone → List EntryFire) (old : Listed T) (answer : Result ℕ AddError) (new : Listed T)
      → ((z : TimeZone) → Ascend (fires z))
      → Adds has zones table zone fires old answer new
      → AllAscend has zones old.entries
      → AllAscend has zones new.entries
  pub less : (id : ℕ) (es : List (Entry T)) → AllAscend has zones es → AllAscend has zones (without id es)

-- In the list of merged fires no fire precedes one that is before it in the list.
abbrev pub MergedIsInOrder : {T : Type 0} → (T → Seconds) → Type 0
MergedIsInOrder {T} has =
    (zones : List TimeZone) (es : List (Entry T)) (i j : ℕ) (a b : OwnFire)
    → i < j
    → slice_get (merged has zones es) i ≡ Some a
    → slice_get (merged has zones es) j ≡ Some b
    → precedes b a ≡ false

-- The merged fires are the fires that the entries have left, each as often as there.
abbrev pub MergedHasTheFires : {T : Type 0} → (T → Seconds) → Type 0
MergedHasTheFires {T} has =
    (zones : List TimeZone) (es : List (Entry T))
    → IsPermutation (all_of has zones es) (merged has zones es)

-- The merged fires of one entry are its own fires, in their order.
abbrev pub OneEntryIsItsFires : {T : Type 0} → (T → Seconds) → Type 0
OneEntryIsItsFires {T} has =
    (zones : List TimeZone) (e : Entry T)
    → Ascend (left has zones e)
    → merged has zones (e ∷ []) ≡ owned e.id (left has zones e)

-- The fires that are taken one after another are a front of the merged fires, and the rest is left.
abbrev pub TakenAreTheFront : {T : Type 0} → (T → Seconds) → Type 0
TakenAreTheFront {T} has =
    (zones : List TimeZone) (fires : List AgendaFire) (old new : List (Entry T))
    → AllAscend has zones old
    → AreTaken has zones fires old new
    → (merged has zones old ≡ map own_of fires ++ merged has zones new) × AllAscend has zones new

-- Where fires were taken one after another, what is left is what each entry has left past the last
-- of its own, merged. So a run that is cut anywhere goes on from there.
abbrev pub TheRestIsBehind : {T : Type 0} → (T → Seconds) → Type 0
TheRestIsBehind {T} has =
    (zones : List TimeZone) (fires : List AgendaFire) (old new : List (Entry T)) (low high : ℕ)
    → HaveIds low old high
    → AreTaken has zones fires old new
    → merged has zones new ≡ in_order (left_behind has zones fires old)

-- An entry that is added past a fire has left what comes after it. It is refused as one that would
-- never fire only if nothing comes after it.
pub record AddedPastGoesOn {T : Type 0} (has : T → Seconds) : Type 0 where
  pub added :
      (zones : List TimeZone) (table : T) (zone : ℕ) (last : EntryFire) (old : Listed T) (id : ℕ) (new : Listed T)
      → Adds has zones table zone (λ z. fires_past (has table) z last) old (Ok id) new
      → (fire : EntryFire) × (new.entries ≡ old.entries ++ entry id table zone fire ∷ [])
      × (left has zones (entry id table zone fire) ≡ rest_in (has table) (slice_get zones zone) last)
  pub ended :
      (zones : List TimeZone) (table : T) (zone : ℕ) (last : EntryFire) (old new : Listed T)
      → Adds has zones table zone (λ z. fires_past (has table) z last) old (Err NoFires) new
      → rest_in (has table) (slice_get zones zone) last ≡ []

-- New entries go on as those of an uncut run: entry for entry; all of them, merged, under new ids;
-- and so fire for fire. If the fires of each old entry ascend, so do those of each new one.
pub record GoOnAs {T : Type 0} (has : T → Seconds) (zones : List TimeZone) (now news : List (Entry T)) : Type 0 where
  pub each : map (left has zones) news ≡ map (left has zones) now
  pub all : merged has zones news ≡ map (renamed now news) (merged has zones now)
  pub fires : map (λ o. o.fire) (merged has zones news) ≡ map (λ o. o.fire) (merged has zones now)
  pub ascend : AllAscend has zones now → AllAscend has zones news

-- Entries that are added anew after a restart, each past the last of its own fires that were taken,
-- go on as in an uncut run.
abbrev pub RestartOfAllGoesOn : {T : Type 0} → (T → Seconds) → Type 0
RestartOfAllGoesOn {T} has =
    (zones : List TimeZone) (fires : List AgendaFire) (olds now news : List (Entry T)) (low high first end : ℕ)
    → HaveIds low olds high
    → HaveIds first news end
    → AreTaken has zones fires olds now
    → IsAnew has zones fires olds news
    → GoOnAs has zones now news

-- An added entry has left all of the fires with which it is added.
abbrev pub AddedHasAll : {T : Type 0} → (T → Seconds) → Type 0
AddedHasAll {T} has =
    (zones : List TimeZone) (table : T) (zone : ℕ) (fires : TimeZone → List EntryFire) (old : Listed T) (id : ℕ) (new : Listed T)
    → Adds has zones table zone fires old (Ok id) new
    → (fire : EntryFire) × (new.entries ≡ old.entries ++ entry id table zone fire ∷ []) × HasAll has zones fires (entry id table zone fire)

-- Entries become anew one after another, in their old order. An entry of which a fire was noted is
-- added past it, or never fires again. An entry of which none was noted is added again with all
-- that it had.
pub record AddedAreAnew {T : Type 0} (has : T → Seconds) : Type 0 where
  pub none : (zones : List TimeZone) (fires : List AgendaFire) → IsAnew has zones fires [] []
  pub past :
      (zones : List TimeZone) (fires : List AgendaFire) (olds : List (Entry T)) (e : Entry T) (last : EntryFire) (old : Listed T) (id : ℕ) (new : Listed T)
      → last_of e.id fires ≡ Some last
      → Adds has zones e.table e.zone (λ z. fires_past (has e.table) z last) old (Ok id) new
      → IsAnew has zones fires olds old.entries
      → IsAnew has zones fires (olds ++ e ∷ []) new.entries
  pub ended :
      (zones : List TimeZone) (fires : List AgendaFire) (olds : List (Entry T)) (e : Entry T) (last : EntryFire) (old new : Listed T)
      → last_of e.id fires ≡ Some last
      → Adds has zones e.table e.zone (λ z. fires_past (has e.table) z last) old (Err NoFires) new
      → IsAnew has zones fires olds old.entries
      → IsAnew has zones fires (olds ++ e ∷ []) new.entries
  pub again :
      (zones : List TimeZone) (fires : List AgendaFire) (olds : List (Entry T)) (e : Entry T) (all : TimeZone → List EntryFire) (old : Listed T) (id : ℕ)
      (new : Listed T)
      → last_of e.id fires ≡ None
      → HasAll has zones all e
      → Adds has zones e.table e.zone all old (Ok id) new
      → IsAnew has zones fires olds old.entries
      → IsAnew has zones fires (olds ++ e ∷ []) new.entries

-- A zone is lent for each entry.
abbrev pub AreLent : {T : Type 0} → List TimeZone → List (Entry T) → Type 0
AreLent zones [] = Unit {0}
AreLent zones (e ∷ es) = ((zone : TimeZone) × (slice_get zones e.zone ≡ Some zone)) × AreLent zones es

-- If a zone is lent for each entry, further zones after them change nothing: not what each entry
-- has left, nor what all have, merged.
pub record ZonesMayGrow {T : Type 0} (has : T → Seconds) : Type 0 where
  pub each :
      (zones others : List TimeZone) (es : List (Entry T))
      → AreLent zones es
      → map (left has (zones ++ others)) es ≡ map (left has zones) es
  pub all :
      (zones others : List TimeZone) (es : List (Entry T))
      → AreLent zones es
      → merged has (zones ++ others) es ≡ merged has zones es
  pub ascend :
      (zones others : List TimeZone) (es : List (Entry T))
      → AreLent zones es
      → AllAscend has zones es
      → AllAscend has (zones ++ others) es

-- A zone stays lent for each entry: as further zones are appended, as entries are added and
-- removed, and as fires are taken.
pub record StayLent {T : Type 0} (has : T → Seconds) : Type 0 where
  pub none : (zones : List TimeZone) → AreLent {T = T} zones []
  pub grown : (zones others : List TimeZone) (es : List (Entry T)) → AreLent zones es → AreLent (zones ++ others) es
  pub more :
      (zones : List TimeZone) (table : T) (zone : ℕ) (fires : TimeZone → List EntryFire) (old : Listed T) (answer : Result ℕ AddError) (new : Listed T)
      → Adds has zones table zone fires old answer new
      → AreLent zones old.entries
      → AreLent zones new.entries
  pub less : (zones : List TimeZone) (id : ℕ) (es : List (Entry T)) → AreLent zones es → AreLent zones (without id es)
  pub taken :
      (zones : List TimeZone) (old : List (Entry T)) (taken : AgendaFire) (new : List (Entry T))
      → IsTaken has zones old taken new
      → AreLent zones old
      → AreLent zones new
