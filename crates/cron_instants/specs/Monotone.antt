-- Civil seconds about which the clock and the instants have one order. A civil second is settled if
-- it is read once, and what the clock shows before it is read earlier. It is in order if, besides,
-- what the clock shows after it is read later.
use Rattle.std.specs.Prelude.{◌≡◌, ℕ, ◌≤◌, ◌<◌, ℤ, pos, ◌-ℤ◌, ◌<ℤ◌, true, Option, Some, None}
use Rattle.jiff_core.specs.declared.Offset.{Offset}
use Rattle.jiff_tz.specs.declared.timezone.TimeZone.{TimeZone}
use Rattle.cron_units.specs.declared.way.Way.TheVariants.{Ahead}
use Rattle.cron_time.specs.Seconds.{Seconds, is_match}
use Rattle.cron_moments.specs.Readings.{Reading, instant, reading}
use Rattle.cron_instants.specs.Beyond.{IsBest, IsBeyond}
use Rattle.cron_instants.specs.OffsetRange.{IsOnce, IsRead}
use Rattle.cron_instants.specs.declared.monotone.Monotone.{Monotone}

-- the civil second is read once, at this offset, and what the clock shows before it is read earlier
pub record IsSettled (z : TimeZone) (c : ℕ) (o : Offset) : Type 0 where
  pub once : IsOnce z (reading c o)
  pub behind : (q : Reading) → IsRead z q → q.second < c → instant q <ℤ (pos c -ℤ o.seconds)

-- the civil second is settled, and what the clock shows after it is read later
pub record IsInOrder (z : TimeZone) (c : ℕ) (o : Offset) : Type 0 where
  pub settled : IsSettled z c o
  pub ahead : (q : Reading) → IsRead z q → c < q.second → (pos c -ℤ o.seconds) <ℤ instant q

-- the civil second is settled, and from it up to `end`, which may lie before it, all are in order
pub record IsMonotone (z : TimeZone) (c : ℕ) (monotone : Monotone) : Type 0 where
  pub settled : IsSettled z c monotone.offset
  pub on : (k : ℕ) → c ≤ k → k < monotone.end → IsInOrder z k monotone.offset

-- what is known after an item with this instant and civil second
pub record IsKnownMonotone (s : Seconds) (z : TimeZone) (i : ℤ) (c : ℕ) (known : Monotone) : Type 0 where
  pub matching : is_match s c ≡ true
  pub instant_is : i ≡ pos c -ℤ known.offset.seconds
  pub monotone : IsMonotone z c known

abbrev pub IsKnown : Seconds → TimeZone → ℤ → ℕ → Option Monotone → Type 0
IsKnown s z i c None = Unit {0}
IsKnown s z i c (Some monotone) = IsKnownMonotone s z i c monotone

-- what is known after an item; nothing if there is none
abbrev pub IsKnownAfter : Seconds → TimeZone → Option Reading → Option Monotone → Type 0
IsKnownAfter s z None known = known ≡ None
IsKnownAfter s z (Some r) known = IsKnown s z (instant r) r.second known

-- the nearest item ahead, and what is known after it
pub record IsNext (s : Seconds) (z : TimeZone) (i : ℤ) (c : ℕ) (next : Option Reading) (known : Option Monotone) : Type 0 where
  pub nearest : IsBest Ahead (IsBeyond Ahead s z i c) next
  pub after : IsKnownAfter s z next known
