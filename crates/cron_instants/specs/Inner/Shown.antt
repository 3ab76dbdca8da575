-- Items by what a clock shows at their instants.
use Rattle.std.specs.Prelude.{◌≡◌, ℕ, ◌<◌, ℤ, pos, ◌-ℤ◌, ◌≤ℤ◌, ◌<ℤ◌, Option, Some, MatchOption, IfSome}
use Rattle.jiff_tz.specs.declared.timezone.TimeZone.{TimeZone}
use Rattle.cron_time.specs.Seconds.{Seconds}
use Rattle.cron_moments.specs.Readings.{Reading, instant}
use Rattle.cron_clocks.specs.Clocks.{shown_offset}
use Rattle.cron_clocks.specs.declared.clock.Kept.{Kept}
use Rattle.cron_instants.specs.Beyond.{Stands}

-- an item whose instant is this one or a later one
abbrev pub IsFrom : Seconds → TimeZone → ℤ → Reading → Type 0
IsFrom s z a r = Stands s z r × (a ≤ℤ instant r)

-- no item's instant is a or later, and before b
abbrev pub HasNone : Seconds → TimeZone → ℤ → ℤ → Type 0
HasNone s z a b = (r : Reading) → Stands s z r → a ≤ℤ instant r → instant r <ℤ b → ⊥

-- the reading is at the offset that a clock shows at its instant
abbrev pub IsShownAt : TimeZone → Reading → Type 0
IsShownAt z r = shown_offset z (instant r) ≡ r.offset.seconds

-- the reading is at the offset that a clock shows at its instant, and before that a clock shows
-- only lesser civil seconds
pub record IsFirstShown (z : TimeZone) (r : Reading) : Type 0 where
  pub shown : IsShownAt z r
  pub first : (q : Reading) → IsShownAt z q → instant q <ℤ instant r → q.second < r.second

-- the civil second read at the offset that a clock keeps up to an end; `None` without a civil
-- second, or if its instant isn't before the end
abbrev pub IsItemIn : Kept → Option ℕ → Option Reading → Type 0
IsItemIn kept next item =
    MatchOption item
    (IfSome next (λ c. pos kept.end ≤ℤ (pos c -ℤ kept.offset.seconds)))
    (λ r. (next ≡ Some r.second) × (r.offset ≡ kept.offset) × (instant r <ℤ pos kept.end))
