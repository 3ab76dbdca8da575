-- Where a call leaves a walk. A walk's stand is where it is, by what its state keeps.
use Rattle.std.specs.Prelude.{◌≡◌, ℤ, Some}
use Rattle.cron_units.specs.declared.way.Way.{Way}
use Rattle.jiff_tz.specs.declared.timezone.TimeZone.{TimeZone}
use Rattle.cron_time.specs.Walk.Cursor.{Cursor, Step, go_to, step_on}
use Rattle.cron_time.specs.Walk.Inner.Placed.{cursor_of, answer_of, IsPlaced}
use Rattle.cron_units.specs.Sets.{Sets}
use Rattle.cron_time.specs.Timeline.{timeline}
use Rattle.cron_time.specs.Walk.Ways.{place_from}
use Rattle.cron_time.specs.Walk.Inner.Stand.{Stand}

-- the stand has the answer and the cursor of this step
pub record IsLeftBy (s : Sets) (z : TimeZone) (step : Step) (stand : Stand) : Type 0 where
  pub placed : IsPlaced s z stand
  pub leads : step ≡ record { answer = answer_of stand; cursor = cursor_of s z stand }

-- the walk is left at the first item from the bound on, or at the end if there is none
abbrev pub IsReached : Way → Sets → TimeZone → ℤ → Stand → Type 0
IsReached way s z bound stand = IsLeftBy s z (go_to (timeline s z) (place_from way (timeline s z) (Some bound))) stand

-- the walk is left where a call from this cursor leaves it
abbrev pub IsStop : Way → Sets → TimeZone → Cursor → Stand → Type 0
IsStop way s z cursor stand = IsLeftBy s z (step_on (timeline s z) z way cursor) stand

-- a call in this direction leads a walk from one stand to another
abbrev pub LeadsTo : Way → Sets → TimeZone → Stand → Stand → Type 0
LeadsTo way s z old new = IsStop way s z (cursor_of s z old) new
