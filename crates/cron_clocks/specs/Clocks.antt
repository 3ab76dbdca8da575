-- When the two look-ups of a zone agree: what a clock shows at an instant, and at which instants it shows a civil second.
use Rattle.std.specs.Prelude.{◌≡◌, ℕ, ◌<◌, ℤ, pos, ◌+ℤ◌, ◌≤ℤ◌, ◌<ℤ◌, List, Some, None, slice_get}
use Rattle.std.specs.Int.{int_div_euclid}
use Rattle.jiff_core.specs.Timestamp.{nanos_of_seconds}
use Rattle.jiff_tz.specs.declared.timezone.TimeZone.{TimeZone}
use Rattle.jiff_tz.specs.declared.timezone.TimeZone.TheVariants.{Posix}
use Rattle.jiff_tz.specs.Zone.{IsFixed, offset_at}
use Rattle.cron_moments.specs.Civil.{seconds_in_range}
use Rattle.cron_moments.specs.Readings.{Reading, readings, instant}

-- how many seconds a clock in the zone is ahead of UTC, n seconds after 1970-01-01T00:00:00Z
abbrev pub shown_offset : TimeZone → ℤ → ℤ
shown_offset z n = offset_at z (nanos_of_seconds n)

-- throughout second n of UTC, counted from 1970-01-01T00:00:00Z, a clock in the zone shows the
-- offset o, in seconds
abbrev pub IsShown : TimeZone → ℤ → ℤ → Type 0
IsShown z n o = (t : ℤ) → int_div_euclid t (pos 1_000_000_000) ≡ n → offset_at z t ≡ o

-- from second n of UTC up to `end`, which is left out, a clock in the zone shows the offset o, in
-- seconds
pub record IsKeptUpTo (z : TimeZone) (n : ℤ) (end : ℕ) (o : ℤ) : Type 0 where
  pub later : n <ℤ pos end
  pub shown : (k : ℤ) → n ≤ℤ k → k <ℤ pos end → shown_offset z k ≡ o

-- one of these readings has the instant n, in seconds since 1970-01-01T00:00:00Z
pub record HasInstant (rs : List Reading) (n : ℤ) : Type 0 where
  pub place : ℕ
  pub at_place : Reading
  pub here : slice_get rs place ≡ Some at_place
  pub is : instant at_place ≡ n

-- at the instant of each reading of a civil second of the range the clock shows the reading's offset
abbrev pub ReadingsAreShown : TimeZone → Type 0
ReadingsAreShown z =
    (c i : ℕ) (r : Reading)
    → c < seconds_in_range
    → slice_get (readings z c) i ≡ Some r
    → shown_offset z (instant r) ≡ r.offset.seconds

-- an instant at which the clock shows a civil second of the range is the instant of one of its
-- readings
abbrev pub ShownAreRead : TimeZone → Type 0
ShownAreRead z =
    (c : ℕ) (n : ℤ)
    → c < seconds_in_range
    → n +ℤ shown_offset z n ≡ pos c
    → HasInstant (readings z c) n

pub record LookupsAgree (z : TimeZone) : Type 0 where
  pub readings_shown : ReadingsAreShown z
  pub shown_read : ShownAreRead z

-- in UTC, and in every zone with one offset, the look-ups agree
abbrev pub FixedZonesAgree : Type 0
FixedZonesAgree = (z : TimeZone) → IsFixed z → LookupsAgree z

-- a rule with no saving
abbrev pub IsPlain : TimeZone → Type 0
IsPlain (Posix rule) = rule.dst ≡ None
IsPlain z = ⊥

-- with a rule with no saving the look-ups agree
abbrev pub PlainRulesAgree : Type 0
PlainRulesAgree = (z : TimeZone) → IsPlain z → LookupsAgree z
