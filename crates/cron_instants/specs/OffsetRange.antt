-- How far the readings of a zone lie from the order of their civil seconds.
use Rattle.std.specs.Prelude.{◌≡◌, ℕ, ◌<◌, ◌⊎◌, ℤ, pos, ◌+ℤ◌, ◌-ℤ◌, ◌≤ℤ◌, ◌<ℤ◌, Some, IfSome, [], ◌∷◌, slice_get}
use Rattle.jiff_tz.specs.declared.posix.TimeZone.{TimeZone as Rule}
use Rattle.jiff_tz.specs.declared.timezone.TimeZone.{TimeZone}
use Rattle.cron_moments.specs.Civil.{seconds_in_range}
use Rattle.cron_moments.specs.Readings.{Reading, instant, readings}
use Rattle.cron_instants.specs.declared.offset_range.OffsetRange.{OffsetRange}

-- a reading of a civil second of the range
pub record IsRead (z : TimeZone) (r : Reading) : Type 0 where
  pub in_range : r.second < seconds_in_range
  pub place : ℕ
  pub here : slice_get (readings z r.second) place ≡ Some r

-- the reading is the only one of its civil second
abbrev pub IsOnce : TimeZone → Reading → Type 0
IsOnce z r = readings z r.second ≡ r ∷ []

-- the offset, in seconds, lies from the least to the greatest of a range of offsets
abbrev pub IsAmongOffsets : OffsetRange → ℤ → Type 0
IsAmongOffsets p o = (p.least ≤ℤ o) × (o ≤ℤ p.greatest)

-- how far apart two offsets of a range of offsets can be
abbrev pub width : OffsetRange → ℤ
width p = p.greatest -ℤ p.least

-- from the edge on the readings are at offsets from the least to the greatest. Before it two
-- readings come in the order of their civil seconds, if one is the only reading of its civil second
pub record IsOffsetRange (z : TimeZone) (p : OffsetRange) : Type 0 where
  pub some : p.least ≤ℤ p.greatest
  pub ordered : (q r : Reading) → IsRead z q → IsRead z r → q.second < r.second → pos r.second <ℤ p.edge → IsOnce z q ⊎ IsOnce z r → instant q <ℤ instant r
  pub upto : (q r : Reading) → IsRead z q → IsRead z r → pos q.second <ℤ p.edge → p.edge ≤ℤ pos r.second → IsOnce z q → instant q <ℤ (instant r +ℤ width p)
  pub past : (q r : Reading) → IsRead z q → IsRead z r → pos q.second <ℤ p.edge → (p.edge +ℤ width p) ≤ℤ pos r.second → instant q <ℤ instant r
  pub among : (r : Reading) → IsRead z r → p.edge ≤ℤ pos r.second → IsAmongOffsets p r.offset.seconds

-- the offsets of a rule lie from the least to the greatest of a range of offsets
pub record HasOffsets (rule : Rule) (p : OffsetRange) : Type 0 where
  pub standard : IsAmongOffsets p rule.std_offset.seconds
  pub saving : IfSome rule.dst (λ d. IsAmongOffsets p d.offset.seconds)
