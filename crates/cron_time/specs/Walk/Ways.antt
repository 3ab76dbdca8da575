-- What a walk does in a direction, ahead or back, as one definition for both.
use Rattle.std.specs.Prelude.{ℕ, ◌+◌, ℤ, List, Option, Some, None}
use Rattle.cron_units.specs.declared.way.Way.{Way}
use Rattle.cron_units.specs.declared.way.Way.TheVariants.{Ahead, Back}
use Rattle.jiff_tz.specs.declared.timezone.TimeZone.{TimeZone}
use Rattle.cron_time.specs.Walk.Bounds.{bound_ahead, bound_back}
use Rattle.cron_time.specs.Walk.Cursor.{Cursor, Start, Place, Ended, first_from, last_to, place_before}
use Rattle.cron_moments.specs.Readings.{Reading}

abbrev pub opposite : Way → Way
opposite Ahead = Back
opposite Back = Ahead

-- the bound of a walk that starts at an instant: the civil second where its search begins
abbrev pub bound : Way → TimeZone → ℤ → Option ℤ
bound Ahead z t = bound_ahead z t
bound Back z t = bound_back z t

-- the place of the first item from a bound on, in this direction
abbrev pub place_from : Way → List Reading → Option ℤ → Option ℕ
place_from Ahead items b = first_from items b
place_from Back items b = last_to items b

-- the next place in this direction; `None` before the first one
abbrev pub place_beside : Way → ℕ → Option ℕ
place_beside Ahead i = Some (i + 1)
place_beside Back i = place_before i

-- the place that a call goes to; `None` from the end, and where no place lies that way
abbrev pub target : Way → List Reading → TimeZone → Cursor → Option ℕ
target way items z (Start t) = place_from way items (bound way z t)
target way items z (Place i) = place_beside way i
target way items z Ended = None
