-- Runs that are cut after an item and go on from it.
use Rattle.std.specs.Prelude.{◌≡◌, ◌<◌, ℕ, List, [], ◌∷◌, ◌++◌, Some, slice_get}
use Rattle.cron_units.specs.Sets.{Sets}
use Rattle.cron_units.specs.declared.way.Way.{Way}
use Rattle.cron_moments.specs.Civil.{seconds_in_range}
use Rattle.cron_time.specs.Walk.Cursor.{Cursor, Place, Run, run_on, step_on}
use Rattle.cron_moments.specs.Readings.{Reading}
use Rattle.cron_time.specs.Timeline.{timeline}
use Rattle.jiff_tz.specs.declared.timezone.TimeZone.{TimeZone}

-- two runs in a row: the answers of both, and the last cursor
abbrev pub followed_by : Run → Run → Run
followed_by first second = record { answers = first.answers ++ second.answers; cursor = second.cursor }

-- if the last call of a list answers an item, the run of this list, and then of another list from
-- the item's place, is the uncut run of both
abbrev pub CutRunsAreResumed : Type 0
CutRunsAreResumed =
    (s : Sets) (z : TimeZone) (before after : List Way) (last : Way) (c : Cursor) (r : Reading) (place : ℕ)
    → (step_on (timeline s z) z last (run_on (timeline s z) z before c).cursor).answer ≡ Some r
    → slice_get (timeline s z) place ≡ Some r
    → run_on (timeline s z) z ((before ++ last ∷ []) ++ after) c
    ≡ followed_by (run_on (timeline s z) z (before ++ last ∷ []) c) (run_on (timeline s z) z after (Place place))

-- each item's civil second is in the range
abbrev pub ItemsAreInRange : Type 0
ItemsAreInRange =
    (s : Sets) (z : TimeZone) (i : ℕ) (x : Reading) → slice_get (timeline s z) i ≡ Some x → x.second < seconds_in_range
