-- Laws of timelines and of walks, over the definitions alone.
use Rattle.std.specs.Prelude.{◌≡◌, ℕ, ◌+◌, ◌≤◌, true, List, ◌++◌, map, Some, None, count_by, nat_eq, slice_get}
use Rattle.cron_units.specs.declared.way.Way.{Way}
use Rattle.cron_units.specs.declared.way.Way.TheVariants.{Ahead, Back}
use Rattle.jiff_tz.specs.declared.timezone.TimeZone.{TimeZone}
use Rattle.cron_moments.specs.Civil.{civil}
use Rattle.cron_time.specs.Walk.Cursor.{Cursor, Place, Ended, step_on, run_on}
use Rattle.cron_moments.specs.Readings.{Reading}
use Rattle.cron_units.specs.Sets.{Sets}
use Rattle.cron_time.specs.Matches.{matches}
use Rattle.cron_time.specs.Timeline.{timeline}

-- the run of two lists of calls, joined, is the run of the first and then that of the second from
-- there
abbrev pub RunsAreJoined : Type 0
RunsAreJoined =
    (items : List Reading) (z : TimeZone) (us vs : List Way) (c : Cursor)
    → run_on items z (us ++ vs) c
    ≡ record {
      answers = (run_on items z us c).answers ++ (run_on items z vs (run_on items z us c).cursor).answers;
      cursor = (run_on items z vs (run_on items z us c).cursor).cursor;
    }

-- after the end every call answers `None`
abbrev pub EndIsForEver : Type 0
EndIsForEver =
    (items : List Reading) (z : TimeZone) (ways : List Way)
    → run_on items z ways Ended ≡ record { answers = map (λ way. None) ways; cursor = Ended }

-- of two items side by side a call back from the second answers the first, and a call ahead from the first the second
abbrev pub NeighboursAreAnswered : Type 0
NeighboursAreAnswered =
    (items : List Reading) (z : TimeZone) (i : ℕ) (x y : Reading)
    → slice_get items i ≡ Some x
    → slice_get items (i + 1) ≡ Some y
    → (step_on items z Back (Place (i + 1)) ≡ record { answer = Some x; cursor = Place i })
    × (step_on items z Ahead (Place i) ≡ record { answer = Some y; cursor = Place (i + 1) })

-- the civil seconds of a timeline never decrease
abbrev pub SecondsNeverDecrease : Type 0
SecondsNeverDecrease =
    (s : Sets) (z : TimeZone) (i j : ℕ) (x y : Reading)
    → i ≤ j
    → slice_get (timeline s z) i ≡ Some x
    → slice_get (timeline s z) j ≡ Some y
    → x.second ≤ y.second

-- each civil second stands on a timeline at most twice
abbrev pub SecondsStandTwiceAtMost : Type 0
SecondsStandTwiceAtMost =
    (s : Sets) (z : TimeZone) (c : ℕ) → count_by (λ r. nat_eq r.second c) (timeline s z) ≤ 2

-- each item's civil second matches
abbrev pub ItemsMatch : Type 0
ItemsMatch =
    (s : Sets) (z : TimeZone) (i : ℕ) (x : Reading)
    → slice_get (timeline s z) i ≡ Some x
    → matches s (civil x.second) ≡ true

-- no item stands at two places
abbrev pub ItemsStandOnce : Type 0
ItemsStandOnce =
    (s : Sets) (z : TimeZone) (i j : ℕ) (x : Reading)
    → slice_get (timeline s z) i ≡ Some x
    → slice_get (timeline s z) j ≡ Some x
    → i ≡ j
