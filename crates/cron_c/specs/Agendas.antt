-- Entries in an array of the caller's, and the fire that comes first of all of them. Instants are
-- in seconds since 1970-01-01T00:00:00Z.
use Rattle.std.specs.Prelude.{◌≡◌, ◌⊎◌, ◌+◌, ◌<◌, ◌≤◌, ◌==◌, ◌&&◌, ℕ, ℤ, pos, Bool, true, false, int_le, int_lt, if◌then◌else◌, List, Option, Some, None, map, length, slice_get, slice_range, slice_set}
use Rattle.cron_moments.specs.Readings.{Reading}
use Rattle.cron_time.specs.Seconds.{Seconds}
use Rattle.cron_instants.specs.Instants.{IsEarliest}
use Rattle.cron_instants.specs.Order.{is_earlier}
use Rattle.cron_earliest.specs.declared.Key.{Key}
use Rattle.cron_instants.specs.Places.{ComesFirst}
use Rattle.cron_earliest.specs.Tree.{IsBestAt, IsTree}
use Rattle.cron_c.specs.Dues.{FollowsDue}
use Rattle.cron_c.specs.Histories.{IsFound, IsHistory, IsHistoryItem}
use Rattle.cron_c.specs.HistoryClocks.{InHistory}
use Rattle.cron_c.specs.Structs.{IsItem, IsItemInRange, IsNoItem}
use Rattle.cron_c.specs.Unions.{seconds_of_any}
use Rattle.cron_c.specs.declared.entry.CronEntry.{CronEntry}
use Rattle.cron_c.specs.declared.era.CronEra.{CronEra}
use Rattle.cron_c.specs.declared.item.CronItem.{CronItem}
use Rattle.cron_c.specs.declared.schedule.CronSchedule.{CronSchedule}
use Rattle.cron_c.specs.declared.status.Status.{Status}
use Rattle.cron_c.specs.declared.status.Status.TheVariants.{Done, NoItem, BadZone, NotAnItem}

-- an entry without its key, its last two numbers: the instant and the place of the first fire from
-- its place down
abbrev pub bare : CronEntry → CronEntry
bare e = record {
  schedules_from = e.schedules_from;
  schedules_length = e.schedules_length;
  eras_from = e.eras_from;
  eras_length = e.eras_length;
  next = e.next;
  rule = e.rule;
  reserved = e.reserved;
  soonest_instant = pos 0;
  soonest_place = 0;
}

-- whether the place has no entry, which its rule says
abbrev pub is_none : CronEntry → Bool
is_none e = e.rule == 0

-- the instant for a place that has no entry, after that of every fire
abbrev pub never : ℤ
never = pos 9_223_372_036_854_775_807

-- the instant of an entry's next fire
abbrev pub when : CronEntry → ℤ
when e = if is_none e then never else e.next.instant

abbrev pub instants_of : List CronEntry → List (Option ℤ)
instants_of es = map (λ e. Some (when e)) es

-- the key that an entry holds: the instant and the place of the first fire from its place down
abbrev pub soonest : CronEntry → Option Key
soonest e = Some (record { instant = e.soonest_instant; place = e.soonest_place })

-- The entries are a tree, where place i is above the places 2i + 1 and 2i + 2. Each entry holds the
-- least key: of its own fire and of those that the two entries below it hold.
abbrev pub IsAgenda : List CronEntry → Type 0
IsAgenda es = IsTree (instants_of es) (map soonest es)

-- each entry but the one at this place holds the least key: of its own fire and of those that the
-- two entries below it hold
abbrev pub IsAgendaBut : List CronEntry → ℕ → Type 0
IsAgendaBut es place = (i : ℕ) → i < length es → (i ≡ place → ⊥) → IsBestAt (instants_of es) (map soonest es) i

-- the entries are the same, except that they may hold other keys
abbrev pub AreSame : List CronEntry → List CronEntry → Type 0
AreSame old new = map bare new ≡ map bare old

-- the entries are the same, except for the keys that they hold, and that e is at this place
abbrev pub AreSameBut : List CronEntry → ℕ → CronEntry → List CronEntry → Type 0
AreSameBut old place e new = map bare new ≡ slice_set (map bare old) place (bare e)

-- The entries become an agenda: only their keys may change.
abbrev pub Begins : List CronEntry → List CronEntry → Status → Type 0
Begins old new Done = AreSame old new × IsAgenda new
Begins old new _ = ⊥

-- The entry e is written to a place, or there is no such place. An agenda stays an agenda.
abbrev pub Puts : List CronEntry → ℕ → CronEntry → List CronEntry → Status → Type 0
Puts old place e new Done = (place < length old) × AreSameBut old place e new × (IsAgenda old → IsAgenda new)
Puts old place e new NotAnItem = (length old ≤ place) × (new ≡ old)
Puts old place e new _ = ⊥

-- ---- what comes next

-- The struct of an item is replaced by the first item of the history that is later; or there is
-- none. Or the struct is no item, or the eras are no history.
abbrev pub FollowsIn : Seconds → List CronEra → CronItem → CronItem → Status → Type 0
FollowsIn s eras old new Done =
    (r : Reading) × (next : Reading) × IsItemInRange r old
    × IsFound eras IsEarliest (λ q. IsHistoryItem s eras q × (is_earlier r q ≡ true)) (Some next) × IsItem next new
FollowsIn s eras old new NoItem =
    (r : Reading) × IsItemInRange r old × IsFound eras IsEarliest (λ q. IsHistoryItem s eras q × (is_earlier r q ≡ true)) None × (new ≡ old)
FollowsIn s eras old new NotAnItem = IsNoItem old × (new ≡ old)
FollowsIn s eras old new BadZone = (IsHistory eras → ⊥) × (new ≡ old)
FollowsIn s eras old new _ = ⊥

-- The struct of a fire is replaced by the next fire, by a rule. 1 goes on to the next item, 2 to
-- the next due fire, and any other is refused.
abbrev pub FollowsBy : ℕ → Seconds → List CronEra → CronItem → CronItem → Status → Type 0
FollowsBy rule s eras old new status =
    ((rule ≡ 1) × FollowsIn s eras old new status)
    ⊎ ((rule ≡ 2) × InHistory eras (FollowsDue s old new) (new ≡ old) status)
    ⊎ ((rule ≡ 1 → ⊥) × (rule ≡ 2 → ⊥) × (status ≡ NotAnItem) × (new ≡ old))

-- the list has `count` members from the place `from` on
abbrev pub IsWithin : {X : Type 0} → List X → ℕ → ℕ → Type 0
IsWithin all from count = from + count ≤ length all

-- the two arrays have the schedules and the eras that an entry names by place and count
abbrev pub HasOwn : List CronSchedule → List CronEra → CronEntry → Type 0
HasOwn schedules eras e = IsWithin schedules e.schedules_from e.schedules_length × IsWithin eras e.eras_from e.eras_length

-- the civil seconds that match any of an entry's own schedules
abbrev pub own_seconds : List CronSchedule → CronEntry → Seconds
own_seconds schedules e = seconds_of_any (slice_range schedules e.schedules_from (e.schedules_from + e.schedules_length))

abbrev pub own_eras : List CronEra → CronEntry → List CronEra
own_eras eras e = slice_range eras e.eras_from (e.eras_from + e.eras_length)

-- `new` is what follows an entry's next fire, by its own schedules, eras and rule; or the status
-- says why nothing does
abbrev pub GoesOn : List CronSchedule → List CronEra → CronEntry → CronItem → Status → Type 0
GoesOn schedules eras e new status =
    (HasOwn schedules eras e × FollowsBy e.rule (own_seconds schedules e) (own_eras eras e) e.next new status)
    ⊎ ((HasOwn schedules eras e → ⊥) × (status ≡ NotAnItem) × (new ≡ e.next))

-- the entry, gone on to the fire `next`; without such a fire its rule becomes 0, so that it is no
-- entry
abbrev pub gone_on : CronEntry → CronItem → Status → CronEntry
gone_on e next Done = record {
  schedules_from = e.schedules_from;
  schedules_length = e.schedules_length;
  eras_from = e.eras_from;
  eras_length = e.eras_length;
  next = next;
  rule = e.rule;
  reserved = e.reserved;
  soonest_instant = e.soonest_instant;
  soonest_place = e.soonest_place;
}
gone_on e next status = record {
  schedules_from = e.schedules_from;
  schedules_length = e.schedules_length;
  eras_from = e.eras_from;
  eras_length = e.eras_length;
  next = e.next;
  rule = 0;
  reserved = e.reserved;
  soonest_instant = e.soonest_instant;
  soonest_place = e.soonest_place;
}

-- whether an entry's next fire is at or before the instant `now`
abbrev pub is_due : ℤ → CronEntry → Bool
is_due now e = int_le (when e) now && int_lt (when e) never

abbrev pub NoneIsDue : ℤ → List CronEntry → Type 0
NoneIsDue now es = IsAgenda es → (i : ℕ) (e : CronEntry) → slice_get es i ≡ Some e → is_due now e ≡ false

-- the entry at this place comes first of all, and its fire is due
pub record IsFirstDue (now : ℤ) (es : List CronEntry) (place : ℕ) : Type 0 where
  pub first : ComesFirst (instants_of es) place
  pub entry : CronEntry
  pub here : slice_get es place ≡ Some entry
  pub due : is_due now entry ≡ true

abbrev pub FirstIsDue : ℤ → List CronEntry → ℕ → Type 0
FirstIsDue now es place = IsAgenda es → IsFirstDue now es place

-- if the entries are an agenda, the one at this place comes first and is due; `next` and `status`
-- are what follows its fire
pub record ComesDue (schedules : List CronSchedule) (eras : List CronEra) (now : ℤ) (es : List CronEntry) (place : ℕ) (next : CronItem) (status : Status) : Type 0 where
  pub entry : CronEntry
  pub here : slice_get es place ≡ Some entry
  pub first : FirstIsDue now es place
  pub goes_on : GoesOn schedules eras entry next status

-- The fire of the entry at this place, the first of all and due, is taken: it is `item`. The entry
-- goes on to its next fire, or ends if it has none.
pub record IsTaken (schedules : List CronSchedule) (eras : List CronEra) (now : ℤ) (old new : List CronEntry) (place : ℕ) (item : CronItem) : Type 0 where
  pub next : CronItem
  pub status : Status
  pub comes : ComesDue schedules eras now old place next status
  pub went : (status ≡ Done) ⊎ (status ≡ NoItem)
  pub is : item ≡ comes.entry.next
  pub left : AreSameBut old place (gone_on comes.entry next status) new
  pub agenda : IsAgenda old → IsAgenda new

-- What each status of `cron_c_agenda_next` means. The first fire is due and is taken, and `place`
-- is its entry's. Or no fire of the agenda is due; or the entry of the first one can't go on. For
-- entries that are no agenda less is known.
abbrev pub TakesFirst : List CronSchedule → List CronEra → ℤ → List CronEntry → List CronEntry → ℕ → ℕ → CronItem → CronItem → Status → Type 0
TakesFirst schedules eras now old new was place before item Done = IsTaken schedules eras now old new place item
TakesFirst schedules eras now old new was place before item NoItem =
    NoneIsDue now old × (new ≡ old) × (place ≡ was) × (item ≡ before)
TakesFirst schedules eras now old new was place before item NotAnItem =
    ((IsAgenda old → ⊥) ⊎ ((next : CronItem) × ComesDue schedules eras now old place next NotAnItem)) × (new ≡ old) × (item ≡ before)
TakesFirst schedules eras now old new was place before item status =
    ((next : CronItem) × ComesDue schedules eras now old place next status) × (new ≡ old) × (item ≡ before)
