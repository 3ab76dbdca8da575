-- The timeline of seven sets in a zone: the readings of the civil seconds that match them. A
-- reading is a civil second with an offset at which the zone's clock shows it.
use Rattle.std.specs.Prelude.{ℕ, List}
use Rattle.jiff_tz.specs.declared.timezone.TimeZone.{TimeZone}
use Rattle.cron_moments.specs.Civil.{civil}
use Rattle.cron_moments.specs.Readings.{Reading}
use Rattle.cron_units.specs.Sets.{Sets}
use Rattle.cron_time.specs.Matches.{matches}
use Rattle.cron_time.specs.Seconds.{Seconds}
use Rattle.cron_time.specs.Seconds as seconds

-- the civil seconds that match, as a test of their numbers
abbrev pub seconds_of : Sets → Seconds
seconds_of s = λ c. matches s (civil c)

-- the readings of the matching civil seconds below a number
abbrev pub items_below : Sets → TimeZone → ℕ → List Reading
items_below s z n = seconds.items_below (seconds_of s) z n

-- the readings of all civil seconds that match, 1970-01-01 00:00:00 to 2100-12-31 23:59:59
abbrev pub timeline : Sets → TimeZone → List Reading
timeline s z = seconds.timeline (seconds_of s) z
