-- What entries have left together, in one order.
use Rattle.std.specs.Prelude.{◌≡◌, ℕ, Bool, true, false, ◌&&◌, ◌||◌, ◌==◌, int_lt, nat_lt, if◌then◌else◌, List, [], ◌∷◌, map, filter, Option, Some, None, slice_get}
use Rattle.std.specs.Ordering.{int_eq}
use Rattle.std.specs.List.{flat_map}
use Rattle.std.specs.Option.{option_or}
use Rattle.jiff_tz.specs.declared.timezone.TimeZone.{TimeZone}
use Rattle.cron_time.specs.Seconds.{Seconds}
use Rattle.cron_instants.specs.Order.{comes_before}
use Rattle.cron_agenda.specs.declared.entry.Entry.{Entry}
use Rattle.cron_agenda.specs.declared.fire.AgendaFire.{AgendaFire}
use Rattle.cron_agenda.specs.declared.fire.EntryFire.{EntryFire}
use Rattle.cron_agenda.specs.Entries.{IsTaken}
use Rattle.cron_agenda.specs.Fires.{civil_second, fires_past, instant}

-- a fire with its entry's id
pub record OwnFire : Type 0 where
  pub id : ℕ
  pub fire : EntryFire

abbrev pub own : ℕ → EntryFire → OwnFire
own id fire = record { id = id; fire = fire }

abbrev pub owned : ℕ → List EntryFire → List OwnFire
owned id fires = map (own id) fires

abbrev pub rest_in : Seconds → Option TimeZone → EntryFire → List EntryFire
rest_in s None fire = []
rest_in s (Some zone) fire = fires_past s zone fire

-- what an entry has left in the zones that are lent: its next fire, and those past it
abbrev pub left : {T : Type 0} → (T → Seconds) → List TimeZone → Entry T → List EntryFire
left has zones e = e.fire ∷ rest_in (has e.table) (slice_get zones e.zone) e.fire

-- an entry has left all of the fires that `fires` gives for its zone
abbrev pub HasAll : {T : Type 0} → (T → Seconds) → List TimeZone → (TimeZone → List EntryFire) → Entry T → Type 0
HasAll has zones fires e = (zone : TimeZone) → slice_get zones e.zone ≡ Some zone → left has zones e ≡ fires zone

-- what all entries have left, one entry after another
abbrev pub all_of : {T : Type 0} → (T → Seconds) → List TimeZone → List (Entry T) → List OwnFire
all_of has zones es = flat_map (λ e. owned e.id (left has zones e)) es

-- a fire comes before another: by instant; if they share it by id; and of one entry by civil second
abbrev pub precedes : OwnFire → OwnFire → Bool
precedes a b =
    int_lt (instant a.fire) (instant b.fire)
    || (int_eq (instant a.fire) (instant b.fire) && (nat_lt a.id b.id || (a.id == b.id && nat_lt (civil_second a.fire) (civil_second b.fire))))

-- a fire put before the first one that it comes before
unfoldable pub put : OwnFire → List OwnFire → List OwnFire
put d [] = d ∷ []
put d (x ∷ l) = if precedes d x then d ∷ x ∷ l else x ∷ put d l

unfoldable pub in_order : List OwnFire → List OwnFire
in_order [] = []
in_order (d ∷ l) = put d (in_order l)

-- what all entries have left, in the order in which it comes
abbrev pub merged : {T : Type 0} → (T → Seconds) → List TimeZone → List (Entry T) → List OwnFire
merged has zones es = in_order (all_of has zones es)

-- a fire is earlier than each fire of a list, by instant and then by civil second
abbrev pub IsEarlierThan : EntryFire → List EntryFire → Type 0
IsEarlierThan f [] = Unit {0}
IsEarlierThan f (q ∷ l) = (comes_before (instant f) (civil_second f) (instant q) (civil_second q) ≡ true) × IsEarlierThan f l

-- each of some fires is earlier than those after it
abbrev pub Ascend : List EntryFire → Type 0
Ascend [] = Unit {0}
Ascend (f ∷ l) = IsEarlierThan f l × Ascend l

-- the fires that each entry has left ascend
abbrev pub AllAscend : {T : Type 0} → (T → Seconds) → List TimeZone → List (Entry T) → Type 0
AllAscend has zones [] = Unit {0}
AllAscend has zones (e ∷ es) = Ascend (left has zones e) × AllAscend has zones es

abbrev pub own_of : AgendaFire → OwnFire
own_of f = own f.id f.fire

-- one fire after another was taken, each the first of the entries as they then were
abbrev pub AreTaken : {T : Type 0} → (T → Seconds) → List TimeZone → List AgendaFire → List (Entry T) → List (Entry T) → Type 0
AreTaken has zones [] old new = new ≡ old
AreTaken {T} has zones (f ∷ fs) old new = (mid : List (Entry T)) × IsTaken has zones old f mid × AreTaken has zones fs mid new

-- the last of some fires that is one of the entry with this id
abbrev pub last_of : ℕ → List AgendaFire → Option EntryFire
last_of id [] = None
last_of id (f ∷ fs) = option_or (last_of id fs) (if f.id == id then Some f.fire else None)

-- what an entry has left past a last fire, or all that it has left if there is no last fire
abbrev pub behind : {T : Type 0} → (T → Seconds) → List TimeZone → Option EntryFire → Entry T → List EntryFire
behind has zones None e = left has zones e
behind has zones (Some last) e = rest_in (has e.table) (slice_get zones e.zone) last

-- what all entries have left, each past its last fire among some fires, one entry after another
abbrev pub left_behind : {T : Type 0} → (T → Seconds) → List TimeZone → List AgendaFire → List (Entry T) → List OwnFire
left_behind has zones fires es = flat_map (λ e. owned e.id (behind has zones (last_of e.id fires) e)) es

-- whether any fire is left
abbrev pub goes_on : List EntryFire → Bool
goes_on [] = false
goes_on (fire ∷ fires) = true

-- Entries are added anew after a restart, in their old order: each has left what an old one has
-- past the last of its own among some fires. Those that have nothing left there are left out.
abbrev pub IsAnew : {T : Type 0} → (T → Seconds) → List TimeZone → List AgendaFire → List (Entry T) → List (Entry T) → Type 0
IsAnew has zones fires olds news = map (left has zones) news ≡ filter goes_on (map (λ e. behind has zones (last_of e.id fires) e) olds)

-- the id that new entries have in the place where old ones have this id
abbrev pub new_id : {T : Type 0} → List (Entry T) → List (Entry T) → ℕ → ℕ
new_id [] news id = id
new_id (e ∷ olds) [] id = id
new_id (e ∷ olds) (n ∷ news) id = if e.id == id then n.id else new_id olds news id

-- a fire under the new id of its entry
abbrev pub renamed : {T : Type 0} → List (Entry T) → List (Entry T) → OwnFire → OwnFire
renamed olds news o = own (new_id olds news o.id) o.fire
