-- A run that is cut after an item and resumed from it is the run uncut.
use Rattle.std.proofs.Common.{◌≡◌, ℕ, ◌+◌, List, [], ◌∷◌, ◌++◌, Some, ap, ◌∙◌, slice_get}
use Rattle.jiff_tz.specs.declared.timezone.TimeZone.{TimeZone}
use Rattle.cron_units.specs.declared.way.Way.{Way}
use Rattle.cron_units.specs.declared.way.Way.TheVariants.{Ahead, Back}
use Rattle.cron_time.specs.Walk.Bounds.{bound_ahead, bound_back}
use Rattle.cron_time.specs.Walk.Cursor.{Cursor, Start, Place, Ended, run_on, step_on, first_from, last_to, place_before}
use Rattle.cron_moments.specs.Readings.{Reading}
use Rattle.cron_time.specs.Timeline.{seconds_of, timeline}
use Rattle.cron_time.proofs.TimelineLaws.{stand_once}
use Rattle.cron_time.proofs.TimelineLemmas.{is_in, stands-high}
use Rattle.cron.specs.Resumed.{followed_by, CutRunsAreResumed, ItemsAreInRange}
use Rattle.cron.proofs.InstantLemmas.{placed}
use Rattle.cron.proofs.RunLemmas.{cursor-append, runs_joined}

-- a call that answers an item leaves the cursor at a place of it
placed_step : (items : List Reading) (z : TimeZone) (w : Way) (c : Cursor) (r : Reading) → (step_on items z w c).answer ≡ Some r
    → (i : ℕ) × ((step_on items z w c).cursor ≡ Place i) × (slice_get items i ≡ Some r)
placed_step items z Ahead (Start t) r h = placed items (first_from items (bound_ahead z t)) r h
placed_step items z Back (Start t) r h = placed items (last_to items (bound_back z t)) r h
placed_step items z Ahead (Place i) r h = placed items (Some (i + 1)) r h
placed_step items z Back (Place i) r h = placed items (place_before i) r h
placed_step items z w Ended r h = absurd (cc)

pub cut_runs_resumed : CutRunsAreResumed
cut_runs_resumed s z before after last c r place answered at =
    let items = timeline s z in
    let (i, left, item) = placed_step items z last (run_on items z before c).cursor r answered in
    let cursor : (run_on items z (before ++ last ∷ []) c).cursor ≡ Place place = cursor-append items z before (last ∷ []) c
    ∙ (left ∙ ap Place (stand_once s z i place r item at)) in
    runs_joined items z (before ++ last ∷ []) after c
    ∙ ap (λ (k : Cursor). followed_by (run_on items z (before ++ last ∷ []) c) (run_on items z after k)) cursor

pub items_in_range : ItemsAreInRange
items_in_range s z i x here = stands-high (seconds_of s) z x.second (is_in (seconds_of s) z i x here).stands
