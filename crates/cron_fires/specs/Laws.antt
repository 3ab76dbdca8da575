-- What holds of the fires of every set in every zone. The items are the readings on the timeline of
-- a set.
use Rattle.std.specs.Prelude.{◌≡◌, ◌↔◌, ℤ, pos, ◌*ℤ◌, ◌≤ℤ◌, List, [], ◌∷◌, Any, Some, length, map, take}
use Rattle.std.specs.Int.{int_div_euclid}
use Rattle.jiff_tz.specs.declared.timezone.TimeZone.{TimeZone}
use Rattle.cron_clocks.specs.Clocks.{LookupsAgree, shown_offset}
use Rattle.cron_units.specs.Sets.{Sets}
use Rattle.cron_moments.specs.Readings.{Reading, instant}
use Rattle.cron_time.specs.Seconds.{Seconds}
use Rattle.cron_time.specs.Timeline.{seconds_of}
use Rattle.cron_instants.specs.Fires.{fires, fires_after, fires_between, fires_past}
use Rattle.cron_instants.specs.Instants.{IsAfter, IsAmong, IsBy, IsFirstAfter, IsItem}
use Rattle.cron_dues.specs.Due.{Due, clock, parts}
use Rattle.cron_dues.specs.Dues.{dues_between}
use Rattle.cron_dues.specs.FirstDues.{IsDue}
use Rattle.cron_unions.specs.Unions.{any_of}

-- the fires are the items of the timeline
abbrev pub FiresAreTheItems : Type 0
FiresAreTheItems = (s : Seconds) (z : TimeZone) (r : Reading) → IsAmong (fires s z) r ↔ IsItem s z r

-- the fires between two instants are the items whose instant lies there
abbrev pub StretchesHaveTheirItems : Type 0
StretchesHaveTheirItems =
    (s : Seconds) (z : TimeZone) (last now : ℤ) (r : Reading)
    → IsAmong (fires_between s z last now) r ↔ (IsItem s z r × IsAfter last r × IsBy now r)

-- the items of several schedules as one are the items of each schedule
abbrev pub ItemsAreOfTheSchedules : Type 0
ItemsAreOfTheSchedules = (ss : List Sets) (z : TimeZone) (r : Reading) → IsItem (any_of ss) z r ↔ Any (λ s. IsItem (seconds_of s) z r) ss

-- the due fires of several schedules as one are the due fires of each schedule
abbrev pub DuesAreOfTheSchedules : Type 0
DuesAreOfTheSchedules = (ss : List Sets) (z : TimeZone) (d : Due) → IsDue (any_of ss) z d ↔ Any (λ s. IsDue (seconds_of s) z d) ss

-- no two items share an instant
abbrev pub HaveOwnInstants : Seconds → TimeZone → Type 0
HaveOwnInstants s z = (r q : Reading) → IsItem s z r → IsItem s z q → instant r ≡ instant q → r ≡ q

-- where the zone's two look-ups, of instants and of civil seconds, agree, no two items share an
-- instant
abbrev pub AgreeingZonesTellApart : Type 0
AgreeingZonesTellApart = (s : Seconds) (z : TimeZone) → LookupsAgree z → HaveOwnInstants s z

-- where no two items share an instant, the fires after the instant of an item are those past it
abbrev pub NextIsPast : Type 0
NextIsPast =
    (s : Seconds) (z : TimeZone) (item : Reading)
    → HaveOwnInstants s z
    → IsItem s z item
    → fires_after s z (instant item *ℤ pos 1_000_000_000) ≡ fires_past s z item

-- each of the answers is the first item after an instant: the first after t, each other after the
-- instant of the answer before
abbrev pub AreAskedInTurn : Seconds → TimeZone → ℤ → List Reading → Type 0
AreAskedInTurn s z t [] = Unit {0}
AreAskedInTurn s z t (r ∷ answers) = IsFirstAfter s z t (Some r) × AreAskedInTurn s z (instant r *ℤ pos 1_000_000_000) answers

-- where no two items share an instant, the answers of a loop that always searches after the last
-- instant are a run
abbrev pub LoopsAreRuns : Type 0
LoopsAreRuns =
    (s : Seconds) (z : TimeZone) (t : ℤ) (answers : List Reading)
    → HaveOwnInstants s z
    → AreAskedInTurn s z t answers
    → take (length answers) (fires_after s z t) ≡ answers

-- up to the second n of UTC the clock has shown nothing later than what it shows then, and it keeps its offset up to m
pub record IsFreshStretch (z : TimeZone) (n m : ℤ) : Type 0 where
  pub fresh : (k : ℤ) → k ≤ℤ n → clock z k ≤ℤ clock z n
  pub kept : (k : ℤ) → n ≤ℤ k → k ≤ℤ m → shown_offset z k ≡ shown_offset z n

-- a time at which the clock shows a match, as a due fire
abbrev pub as_due : Reading → Due
as_due r = parts r.second 0 r.offset

-- where the look-ups of the zone agree, both rules give the same fires between two instants, if the
-- clock keeps its offset there and has shown nothing later before
abbrev pub BothRulesAgree : Type 0
BothRulesAgree =
    (s : Seconds) (z : TimeZone) (last now : ℤ)
    → LookupsAgree z
    → IsFreshStretch z (int_div_euclid last (pos 1_000_000_000)) (int_div_euclid now (pos 1_000_000_000))
    → dues_between s z last now ≡ map as_due (fires_between s z last now)
