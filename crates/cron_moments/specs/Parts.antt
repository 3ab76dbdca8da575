-- A reading by its parts, and by its instant.
use Rattle.std.specs.Prelude.{◌≡◌, ◌<◌, ℤ}
use Rattle.jiff_core.specs.declared.Offset.{Offset}
use Rattle.jiff_core.specs.declared.civil.datetime.DateTime.{DateTime}
use Rattle.cron_moments.specs.Civil.{civil, seconds_in_range}
use Rattle.cron_moments.specs.Readings.{Reading, instant}

-- the reading's civil second is in the range and is what the clock shows, and the clock is this far
-- ahead of UTC
pub record HasParts (shown : DateTime) (offset : Offset) (r : Reading) : Type 0 where
  pub in_range : r.second < seconds_in_range
  pub shown_is : civil r.second ≡ shown
  pub offset_is : r.offset ≡ offset

-- at the instant, in seconds since 1970-01-01T00:00:00Z, a clock at this offset shows the reading's
-- civil second, in the range
pub record ShowsAt (second : ℤ) (offset : Offset) (r : Reading) : Type 0 where
  pub in_range : r.second < seconds_in_range
  pub instant_is : instant r ≡ second
  pub offset_is : r.offset ≡ offset
