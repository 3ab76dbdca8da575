-- The rest of a walk: the items that are still to come in a direction.
use Rattle.std.specs.Prelude.{ℕ, ◌+◌, List, [], Option, Some, None, drop, take, reverse}
use Rattle.std.specs.Iterator.{YieldsFirst}
use Rattle.cron_units.specs.declared.way.Way.{Way}
use Rattle.cron_units.specs.declared.way.Way.TheVariants.{Ahead, Back}
use Rattle.jiff_tz.specs.declared.timezone.TimeZone.{TimeZone}
use Rattle.cron_time.specs.Walk.Cursor.{Cursor, Walk, Steps}
use Rattle.cron_moments.specs.Readings.{Reading}
use Rattle.cron_time.specs.Timeline.{timeline}
use Rattle.cron_time.specs.Walk.Ways.{target}

-- the items from a place on: ahead those from it to the end, back those from it to the beginning
abbrev pub items_from : Way → List Reading → Option ℕ → List Reading
items_from way items None = []
items_from Ahead items (Some i) = drop i items
items_from Back items (Some i) = reverse (take (i + 1) items)

-- the items from the place on that a call would go to
abbrev pub rest_on : Way → List Reading → TimeZone → Cursor → List Reading
rest_on way items z c = items_from way items (target way items z c)

abbrev pub rest : Way → Walk → List Reading
rest way w = rest_on way (timeline w.sets w.zone) w.zone w.cursor

abbrev pub rest_ahead : Walk → List Reading
rest_ahead w = rest Ahead w

abbrev pub rest_back : Walk → List Reading
rest_back w = rest Back w

-- a call of a walk: its cursor made this step, and the answer is the first of the items that were still to come
pub record Gives (way : Way) (old : Walk) (r : Option Reading) (new : Walk) : Type 0 where
  pub cursor : Steps way old r new
  pub items : YieldsFirst (rest way) old r new
