-- The items of a walk from an instant on, which are the readings on a timeline, and their dates.
use Rattle.std.specs.Prelude.{ℤ, Bool, int_le, List}
use Rattle.jiff_core.specs.declared.civil.date.Date.{Date}
use Rattle.jiff_core.specs.Date.{epoch_day}
use Rattle.jiff_tz.specs.declared.timezone.TimeZone.{TimeZone}
use Rattle.cron.specs.Words.{Ahead, Back, civil, Start, Reading, rest_on, Sets, timeline}

-- the items of the timeline ahead of an instant, which is named by its nanoseconds, in order
abbrev pub items_ahead : Sets → TimeZone → ℤ → List Reading
items_ahead s z t = rest_on Ahead (timeline s z) z (Start t)

-- the items of the timeline back from an instant, the last one first
abbrev pub items_back : Sets → TimeZone → ℤ → List Reading
items_back s z t = rest_on Back (timeline s z) z (Start t)

-- the item's date isn't past another
abbrev pub is_through : Date → Reading → Bool
is_through date r = int_le (epoch_day (civil r.second).date) (epoch_day date)
