-- A cursor on a timeline, and what each call answers.
use Rattle.std.specs.Prelude.{◌≡◌, ℕ, zero, suc, ◌+◌, ℤ, pos, Bool, true, false, int_le, List, [], ◌∷◌, Option, Some, None, position, slice_get}
use Rattle.cron_units.specs.declared.way.Way.{Way}
use Rattle.cron_units.specs.declared.way.Way.TheVariants.{Ahead, Back}
use Rattle.jiff_tz.specs.declared.timezone.TimeZone.{TimeZone}
use Rattle.cron_time.specs.Walk.Bounds.{bound_ahead, bound_back}
use Rattle.cron_moments.specs.Readings.{Reading}
use Rattle.cron_units.specs.Sets.{Sets}
use Rattle.cron_time.specs.Timeline.{timeline}

-- where a walk is: at the instant where it started, in nanoseconds since 1970-01-01T00:00:00Z; at a
-- place of the timeline, counted from 0; or at the end
pub data Cursor : Type 0 where
  Start : ℤ → Cursor
  Place : ℕ → Cursor
  Ended : Cursor

-- what a call answers, and the cursor that it leaves
pub record Step : Type 0 where
  pub answer : Option Reading
  pub cursor : Cursor

abbrev pub no_item : Step
no_item = record { answer = None; cursor = Ended }

abbrev pub item_at : ℕ → Option Reading → Step
item_at i None = no_item
item_at i (Some r) = record { answer = Some r; cursor = Place i }

-- the step to the item at this place, or to the end if there is none
abbrev pub go_to : List Reading → Option ℕ → Step
go_to items None = no_item
go_to items (Some i) = item_at i (slice_get items i)

-- the place among all elements, from a place among those after the first; without one, 0 if the
-- first element passes
abbrev pub place_in_tail : Bool → Option ℕ → Option ℕ
place_in_tail passes (Some i) = Some (i + 1)
place_in_tail true None = Some 0
place_in_tail false None = None

-- the place of the last element that passes
abbrev pub last_place : {A : Type 0} → (A → Bool) → List A → Option ℕ
last_place p [] = None
last_place p (x ∷ xs) = place_in_tail (p x) (last_place p xs)

-- the place of the first item at or after the bound
abbrev pub first_from : List Reading → Option ℤ → Option ℕ
first_from items None = None
first_from items (Some b) = position (λ r. int_le b (pos r.second)) items

-- the place of the last item at or before the bound
abbrev pub last_to : List Reading → Option ℤ → Option ℕ
last_to items None = None
last_to items (Some b) = last_place (λ r. int_le (pos r.second) b) items

-- the place before; `None` before the first one
abbrev pub place_before : ℕ → Option ℕ
place_before zero = None
place_before (suc i) = Some i

-- the step that a call makes from this cursor, on these items in this zone
abbrev pub step_on : List Reading → TimeZone → Way → Cursor → Step
step_on items z Ahead (Start t) = go_to items (first_from items (bound_ahead z t))
step_on items z Back (Start t) = go_to items (last_to items (bound_back z t))
step_on items z Ahead (Place i) = go_to items (Some (i + 1))
step_on items z Back (Place i) = go_to items (place_before i)
step_on items z way Ended = no_item

-- a walk: its sets, its zone and its cursor
pub record Walk : Type 0 where
  pub sets : Sets
  pub zone : TimeZone
  pub cursor : Cursor

-- the answer of a call of a walk, and the cursor that it leaves
abbrev pub step : Way → Walk → Step
step way w = step_on (timeline w.sets w.zone) w.zone way w.cursor

-- a call of the walk `old` answered so and left the walk `new`
pub record Steps (way : Way) (old : Walk) (r : Option Reading) (new : Walk) : Type 0 where
  pub answer : r ≡ (step way old).answer
  pub cursor : new.cursor ≡ (step way old).cursor
  pub sets : new.sets ≡ old.sets
  pub zone : new.zone ≡ old.zone

-- the answers and the last cursor of a list of calls
pub record Run : Type 0 where
  pub answers : List (Option Reading)
  pub cursor : Cursor

abbrev pub run_on : List Reading → TimeZone → List Way → Cursor → Run
run_on items z [] c = record { answers = []; cursor = c }
run_on items z (w ∷ ws) c =
    let s = step_on items z w c in
    let rest = run_on items z ws s.cursor in
    record { answers = s.answer ∷ rest.answers; cursor = rest.cursor }
