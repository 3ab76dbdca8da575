-- Laws of walks in a zone with one offset: their answers by instants.
use Rattle.std.specs.Prelude.{◌≡◌, ℕ, ◌<◌, ℤ, pos, ◌+ℤ◌, ◌*ℤ◌, ◌<ℤ◌, ◌≤ℤ◌, true, [], ◌∷◌, Some, None, MatchOption, slice_get}
use Rattle.jiff_core.specs.declared.Offset.{Offset}
use Rattle.jiff_core.specs.Timestamp.{IsTimestampNanos}
use Rattle.jiff_tz.specs.declared.posix.TimeZone as rule
use Rattle.jiff_tz.specs.declared.timezone.TimeZone.{TimeZone}
use Rattle.jiff_tz.specs.declared.timezone.TimeZone.TheVariants.{Posix}
use Rattle.jiff_tz.specs.Zone.{IsFixed, offset_at}
use Rattle.cron_units.specs.declared.way.Way.TheVariants.{Ahead}
use Rattle.cron_moments.specs.Civil.{civil, seconds_in_range}
use Rattle.cron_time.specs.Walk.Cursor.{Start, Place, step_on}
use Rattle.cron_moments.specs.Readings.{Reading, reading, readings, instant}
use Rattle.cron_units.specs.Sets.{Sets}
use Rattle.cron_time.specs.Matches.{matches}
use Rattle.cron_time.specs.Timeline.{timeline}

-- how far the zone's clock is ahead of UTC at 1970-01-01T00:00:00Z, in seconds
abbrev pub offset_of : TimeZone → ℤ
offset_of z = offset_at z (pos 0)

-- the civil second c has one reading, at this offset
abbrev pub IsReadOnce : TimeZone → ℤ → ℕ → Type 0
IsReadOnce z offset c = (o : Offset) × (readings z c ≡ reading c o ∷ []) × (o.seconds ≡ offset)

-- the clock shows every instant at this offset, and each civil second of the range has one reading, at this offset
pub record HasOneOffset (z : TimeZone) (offset : ℤ) : Type 0 where
  pub shown : (n : ℤ) → offset_at z n ≡ offset
  pub read : (c : ℕ) → c < seconds_in_range → IsReadOnce z offset c

-- UTC and each zone that is made of an offset have one offset
abbrev pub FixedZonesHaveOneOffset : Type 0
FixedZonesHaveOneOffset = (z : TimeZone) → IsFixed z → HasOneOffset z (offset_of z)

-- a rule without daylight saving has one offset
abbrev pub PlainRulesHaveOneOffset : Type 0
PlainRulesHaveOneOffset = (r : rule.TimeZone) → r.dst ≡ None → HasOneOffset (Posix r) r.std_offset.seconds

-- n whole seconds after 1970-01-01T00:00:00Z a clock with this offset shows a civil second of the
-- range that matches
pub record Shows (s : Sets) (offset n : ℤ) : Type 0 where
  pub second : ℕ
  pub is : n +ℤ offset ≡ pos second
  pub in_range : second < seconds_in_range
  pub matching : matches s (civil second) ≡ true

-- the instant n, in seconds, comes after the instant t, in nanoseconds
abbrev pub IsAfter : ℤ → ℤ → Type 0
IsAfter t n = t <ℤ (n *ℤ pos 1_000_000_000)

-- the item's instant is the least after t that shows a match
pub record IsLeastAfter (s : Sets) (offset t : ℤ) (r : Reading) : Type 0 where
  pub shows : Shows s offset (instant r)
  pub after : IsAfter t (instant r)
  pub least : (n : ℤ) → IsAfter t n → Shows s offset n → instant r ≤ℤ n

-- from a start the first call ahead answers the least instant after it that shows a match, and `None` exactly where there is none
abbrev pub FirstIsLeast : Type 0
FirstIsLeast =
    (s : Sets) (z : TimeZone) (offset t : ℤ)
    → HasOneOffset z offset
    → IsTimestampNanos t
    → MatchOption (step_on (timeline s z) z Ahead (Start t)).answer
    ((n : ℤ) → IsAfter t n → ¬ (Shows s offset n))
    (IsLeastAfter s offset t)

-- from an item a call ahead answers a later instant
abbrev pub NextIsLater : Type 0
NextIsLater =
    (s : Sets) (z : TimeZone) (offset : ℤ) (i : ℕ) (r q : Reading)
    → HasOneOffset z offset
    → slice_get (timeline s z) i ≡ Some r
    → (step_on (timeline s z) z Ahead (Place i)).answer ≡ Some q
    → instant r <ℤ instant q
