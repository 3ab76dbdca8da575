-- Of the items of a timeline the earliest after an instant, and the latest by it.
use Rattle.std.specs.Prelude.{◌≡◌, ℤ, pos, ◌*ℤ◌, ◌≤ℤ◌, ◌<ℤ◌, true, List, Option}
use Rattle.jiff_tz.specs.declared.timezone.TimeZone.{TimeZone}
use Rattle.cron_time.specs.Seconds.{Seconds, timeline}
use Rattle.cron_moments.specs.Readings.{Reading, instant}
pub use Rattle.cron_seconds.specs.Rules.{IsAmong}
use Rattle.cron_seconds.specs.Rules.{IsGreatest, IsLeast, Rises}
use Rattle.cron_instants.specs.Order.{is_earlier}

-- each reading is earlier than those after it in the list
abbrev pub Ascends : List Reading → Type 0
Ascends l = Rises is_earlier l

-- the reading is on the timeline
abbrev pub IsItem : Seconds → TimeZone → Reading → Type 0
IsItem s z r = IsAmong (timeline s z) r

-- an item's instant comes after the instant t, which is in nanoseconds since 1970
abbrev pub IsAfter : ℤ → Reading → Type 0
IsAfter t r = t <ℤ (instant r *ℤ pos 1_000_000_000)

-- an item's instant is t, in nanoseconds since 1970, or comes before it
abbrev pub IsBy : ℤ → Reading → Type 0
IsBy t r = (instant r *ℤ pos 1_000_000_000) ≤ℤ t

-- of the readings with a property the earliest; `None` exactly if none has it
abbrev pub IsEarliest : (Reading → Type 0) → Option Reading → Type 0
IsEarliest P answer = IsLeast is_earlier P answer

-- of the readings with a property the latest; `None` exactly if none has it
abbrev pub IsLatest : (Reading → Type 0) → Option Reading → Type 0
IsLatest P answer = IsGreatest is_earlier P answer

-- of the items whose instant comes after t the earliest
abbrev pub IsFirstAfter : Seconds → TimeZone → ℤ → Option Reading → Type 0
IsFirstAfter s z t = IsEarliest (λ r. IsItem s z r × IsAfter t r)

-- of the items that are later than a given one the earliest
abbrev pub IsFirstPast : Seconds → TimeZone → Reading → Option Reading → Type 0
IsFirstPast s z item = IsEarliest (λ r. IsItem s z r × (is_earlier item r ≡ true))

-- of the items whose instant is t or comes before it the latest
abbrev pub IsLastBy : Seconds → TimeZone → ℤ → Option Reading → Type 0
IsLastBy s z t = IsLatest (λ r. IsItem s z r × IsBy t r)

-- of the items that are earlier than a given one the latest
abbrev pub IsLastBefore : Seconds → TimeZone → Reading → Option Reading → Type 0
IsLastBefore s z item = IsLatest (λ r. IsItem s z r × (is_earlier r item ≡ true))
