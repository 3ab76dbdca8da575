-- Zones with a history: eras one after another. An era is a zone that holds from a second on until
-- the next era starts. Seconds and instants count from 1970-01-01T00:00:00Z, and `IsAfter` and
-- `IsBy` take nanoseconds.
use Rattle.std.specs.Prelude.{◌≡◌, ◌↔◌, ◌+◌, ◌<◌, ℕ, ℤ, pos, ◌*ℤ◌, ◌<ℤ◌, ◌≤ℤ◌, int_le, Bool, true, false, List, [], ◌∷◌, Option, Some, None, IfSome, slice_get, length}
use Rattle.jiff_tz.specs.declared.timezone.TimeZone.{TimeZone}
use Rattle.cron_moments.specs.Readings.{Reading, instant}
use Rattle.cron_time.specs.Seconds.{Seconds}
use Rattle.cron_instants.specs.Fires.{fires_between, fires_past_by}
use Rattle.cron_instants.specs.Instants.{IsAfter, IsAmong, IsBy, IsEarliest, IsLatest, IsItem as IsOnTimeline}
use Rattle.cron_instants.specs.Order.{is_earlier}
use Rattle.cron_c.specs.Zones.{IsSomeZone, IsZoneIn}
use Rattle.cron_c.specs.Arrays.{IsFront}
use Rattle.cron_c.specs.Calls.{IsInstant}
use Rattle.cron_c.specs.Structs.{IsItem, IsItemInRange, IsNoItem, IsSomeItem}
use Rattle.cron_c.specs.declared.era.CronEra.{CronEra}
use Rattle.cron_c.specs.declared.history.Begin.{Begin}
use Rattle.cron_c.specs.declared.history.Begin.TheVariants.{After, Past}
use Rattle.cron_c.specs.declared.item.CronItem.{CronItem}
use Rattle.cron_c.specs.declared.status.Status.{Status}
use Rattle.cron_c.specs.declared.status.Status.TheVariants.{Done, NoItem, BadZone, BadInstant, NotAnItem, More}

-- the struct of each era means a zone, and each era starts later than the one before it
pub record IsHistory (eras : List CronEra) : Type 0 where
  pub zones : (i : ℕ) (e : CronEra) → slice_get eras i ≡ Some e → IsSomeZone e.zone
  pub order : (i : ℕ) (a b : CronEra) → slice_get eras i ≡ Some a → slice_get eras (i + 1) ≡ Some b → a.starts <ℤ b.starts

abbrev pub started_by : Option CronEra → ℤ → Bool
started_by None t = false
started_by (Some e) t = int_le e.starts t

-- whether the era at this place has started by the second t; false past the end
abbrev pub has_started : List CronEra → ℕ → ℤ → Bool
has_started eras at t = started_by (slice_get eras at) t

-- whether the second era starts no later than the first; false if one of them is missing
abbrev pub meets : Option CronEra → Option CronEra → Bool
meets (Some a) (Some b) = int_le b.starts a.starts
meets (Some a) None = false
meets None b = false

-- the reading is an item in the zone of the era, with an instant at or after the era's start
abbrev pub IsEraItem : Seconds → CronEra → Reading → Type 0
IsEraItem s e r = ((z : TimeZone) × IsZoneIn e.zone z × IsOnTimeline s z r) × (e.starts ≤ℤ instant r)

-- the reading is an item of the era at this place, with an instant before the next era's start
abbrev pub IsItemAt : Seconds → List CronEra → ℕ → Reading → Type 0
IsItemAt s eras at r = (e : CronEra) × (slice_get eras at ≡ Some e) × IsEraItem s e r × (has_started eras (at + 1) (instant r) ≡ false)

-- the reading is an item of the history, that is, of one of its eras
abbrev pub IsHistoryItem : Seconds → List CronEra → Reading → Type 0
IsHistoryItem s eras r = (at : ℕ) × IsItemAt s eras at r

-- What was found has a given property. If the eras are a history, it is the nearest reading that
-- has it, and nothing was found only if no reading has it.
abbrev pub IsFound : List CronEra → ((Reading → Type 0) → Option Reading → Type 0) → (Reading → Type 0) → Option Reading → Type 0
IsFound eras IsNearest P found = IfSome found P × (IsHistory eras → IsNearest P found)

-- the earliest item of the history after the instant t, which is in nanoseconds since 1970
abbrev pub IsFirstInAfter : Seconds → List CronEra → ℤ → Option Reading → Type 0
IsFirstInAfter s eras t = IsFound eras IsEarliest (λ q. IsHistoryItem s eras q × IsAfter t q)

-- the latest item of the history at or before the instant t, which is in nanoseconds since 1970
abbrev pub IsLastInBy : Seconds → List CronEra → ℤ → Option Reading → Type 0
IsLastInBy s eras t = IsFound eras IsLatest (λ q. IsHistoryItem s eras q × IsBy t q)

-- The eras are a history; or they are no history.
abbrev pub ChecksHistory : List CronEra → Status → Type 0
ChecksHistory eras Done = IsHistory eras
ChecksHistory eras BadZone = IsHistory eras → ⊥
ChecksHistory eras _ = ⊥

-- The item of the history that is wanted from the instant `second` is written; or there is none; or
-- the instant is out of range. If the eras are no history, they are refused, or an item of one of
-- them is written, or none.
abbrev pub FiresIn : (Seconds → List CronEra → ℤ → Option Reading → Type 0) → Seconds → List CronEra → ℤ → CronItem → CronItem → Status → Type 0
FiresIn IsWanted s eras second old new Done =
    (r : Reading) × IsInstant second × IsWanted s eras (second *ℤ pos 1_000_000_000) (Some r) × IsItem r new
FiresIn IsWanted s eras second old new NoItem = IsInstant second × IsWanted s eras (second *ℤ pos 1_000_000_000) None × (new ≡ old)
FiresIn IsWanted s eras second old new BadZone = (IsHistory eras → ⊥) × (new ≡ old)
FiresIn IsWanted s eras second old new BadInstant = (IsInstant second → ⊥) × (new ≡ old)
FiresIn IsWanted s eras second old new _ = ⊥

-- The item of the history at the instant `second` is written, of two that share it the one with the
-- later civil second. Or there is none; or the eras or the instant are refused.
abbrev pub FiresInAt : Seconds → List CronEra → ℤ → CronItem → CronItem → Status → Type 0
FiresInAt s eras second old new Done =
    (r : Reading) × IsLastInBy s eras (second *ℤ pos 1_000_000_000) (Some r) × (instant r ≡ second) × IsItem r new
FiresInAt s eras second old new NoItem =
    IsInstant second × (IsHistory eras → (r : Reading) → IsHistoryItem s eras r → instant r ≡ second → ⊥) × (new ≡ old)
FiresInAt s eras second old new BadZone = (IsHistory eras → ⊥) × (new ≡ old)
FiresInAt s eras second old new BadInstant = (IsInstant second → ⊥) × (new ≡ old)
FiresInAt s eras second old new _ = ⊥

-- the readings are the earliest with a property, one after another, and `next` is the one after
-- them, or none
unfoldable pub Leads : (Reading → Type 0) → List Reading → Option Reading → Type 0
Leads P [] next = IsEarliest P next
Leads P (r ∷ rs) next = IsEarliest P (Some r) × Leads (λ q. P q × (is_earlier r q ≡ true)) rs next

-- Readings with a given property are at the front of the array. If the eras are a history, they are
-- the first ones, and `next` is the one after them.
abbrev pub IsFilledIn : List CronEra → (Reading → Type 0) → List CronItem → List CronItem → ℕ → Option Reading → Type 0
IsFilledIn eras P old new count next =
    (written : List Reading) × ((r : Reading) → IsAmong written r → P r) × (IsHistory eras → Leads P written next) × IsFront IsItem written old new
    × (count ≡ length written)

-- The readings with a given property are written as far as they fit, and the status says whether
-- these are all. If the eras are refused, they are no history, and the array may hold anything.
abbrev pub FillsIn : List CronEra → (Reading → Type 0) → List CronItem → List CronItem → ℕ → Status → Type 0
FillsIn eras P old new count Done = IsFilledIn eras P old new count None
FillsIn eras P old new count More = (next : Reading) × P next × IsFilledIn eras P old new count (Some next) × (count ≡ length old)
FillsIn eras P old new count BadZone = (IsHistory eras → ⊥) × (count ≡ 0)
FillsIn eras P old new count _ = ⊥

-- The items of the history after the instant `last` and at or before `now` are written as far as
-- they fit; or the eras or an instant are refused.
abbrev pub RunsInBetween : Seconds → List CronEra → ℤ → ℤ → List CronItem → List CronItem → ℕ → Status → Type 0
RunsInBetween s eras last now old new count BadInstant = (IsInstant last → IsInstant now → ⊥) × (new ≡ old) × (count ≡ 0)
RunsInBetween s eras last now old new count status =
    IsInstant last × IsInstant now
    × FillsIn eras (λ r. IsHistoryItem s eras r × IsAfter (last *ℤ pos 1_000_000_000) r × IsBy (now *ℤ pos 1_000_000_000) r) old new count status

-- The items of the history that are later than the item of a struct, and at or before `now`, are
-- written as far as they fit. Or an argument is refused. The given item may be none of the history.
abbrev pub RunsInPast : Seconds → List CronEra → CronItem → ℤ → List CronItem → List CronItem → ℕ → Status → Type 0
RunsInPast s eras item now old new count NotAnItem = IsNoItem item × (new ≡ old) × (count ≡ 0)
RunsInPast s eras item now old new count BadInstant = IsSomeItem item × (IsInstant now → ⊥) × (new ≡ old) × (count ≡ 0)
RunsInPast s eras item now old new count status =
    (r : Reading) × IsItemInRange r item × IsInstant now
    × FillsIn eras (λ q. IsHistoryItem s eras q × (is_earlier r q ≡ true) × IsBy (now *ℤ pos 1_000_000_000) q) old new count status

-- ---- the search

-- z is a zone that the struct of the era at this place means
abbrev pub IsZoneAt : List CronEra → ℕ → TimeZone → Type 0
IsZoneAt eras at z = (e : CronEra) × (slice_get eras at ≡ Some e) × IsZoneIn e.zone z

-- the era at this place starts at the second t
abbrev pub StartsAt : List CronEra → ℕ → ℤ → Type 0
StartsAt eras at t = (e : CronEra) × (slice_get eras at ≡ Some e) × (e.starts ≡ t)

-- the reading is one that a search looks for: after an instant, or later than an item
abbrev pub IsBeyond : Begin → Reading → Type 0
IsBeyond (After t) r = IsAfter t.nanosecond r
IsBeyond (Past item) r = is_earlier item r ≡ true

-- the reading is an item of the history that the search looks for
abbrev pub IsSought : Seconds → List CronEra → Begin → Reading → Type 0
IsSought s eras begin r = IsHistoryItem s eras r × IsBeyond begin r

-- a search from `there` looks for those readings that a search from `begin` looks for and that
-- aren't before the era's start
abbrev pub BeginsIn : CronEra → Begin → Begin → Type 0
BeginsIn e begin there = (r : Reading) → IsBeyond there r ↔ ((e.starts ≤ℤ instant r) × IsBeyond begin r)

-- A reading is at or before t exactly if it is at or before `now` and before the start of the era
-- after place `at`. Both instants are in nanoseconds.
abbrev pub EndsIn : List CronEra → ℕ → ℤ → ℤ → Type 0
EndsIn eras at now t = (r : Reading) → IsBy t r ↔ (IsBy now r × (has_started eras (at + 1) (instant r) ≡ false))

-- each item at or before the instant `now`, which is in nanoseconds, is in one of the first `left`
-- eras
abbrev pub AllBelow : Seconds → List CronEra → ℤ → ℕ → Type 0
AllBelow s eras now left = (i : ℕ) (r : Reading) → IsItemAt s eras i r → IsBy now r → i < left

-- the fires of a zone from where a search begins, up to and including the instant `now`, which is
-- in nanoseconds
abbrev pub fires_from : Seconds → TimeZone → Begin → ℤ → List Reading
fires_from s z (After t) now = fires_between s z t.nanosecond now
fires_from s z (Past item) now = fires_past_by s z item now

-- the first readings with a property are at the front of the array, and `next` is the one after
-- them, or none
abbrev pub IsFilled : (Reading → Type 0) → List CronItem → List CronItem → ℕ → Option Reading → Type 0
IsFilled P old new count next = (written : List Reading) × Leads P written next × IsFront IsItem written old new × (count ≡ length written)

-- the readings with a property are written as far as they fit, and the status says whether these
-- are all
abbrev pub FillsOf : (Reading → Type 0) → List CronItem → List CronItem → ℕ → Status → Type 0
FillsOf P old new count Done = IsFilled P old new count None
FillsOf P old new count More = (next : Reading) × IsFilled P old new count (Some next) × (count ≡ length old)
FillsOf P old new count _ = ⊥

-- the items of the era at this place are written as far as they fit; or the era shows that the eras
-- are no history
abbrev pub FillsEra : Seconds → List CronEra → ℕ → Begin → ℤ → List CronItem → List CronItem → ℕ → Status → Type 0
FillsEra s eras at begin now old new count BadZone = IsHistory eras → ⊥
FillsEra s eras at begin now old new count status = FillsOf (λ r. IsItemAt s eras at r × IsBeyond begin r × IsBy now r) old new count status
