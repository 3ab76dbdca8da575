-- The lines of a walk's answers.
use Rattle.std.proofs.Common.{◌≡◌, ℕ, zero, suc, ◌+◌, Bool, Option, Some, None, List, [], ◌++◌, refl, sym, ap, ◌∙◌, add-one, slice_get}
use Rattle.jiff_tz.specs.declared.timezone.TimeZone.{TimeZone}
use Rattle.cron_units.specs.declared.way.Way.{Way}
use Rattle.cron_units.specs.declared.way.Way.TheVariants.{Ahead, Back}
use Rattle.cron_time.specs.Walk.Bounds.{bound_ahead, bound_back}
use Rattle.cron_time.specs.Walk.Cursor.{Cursor, Start, Place, Ended, Step, Walk, Steps, step, step_on, go_to, item_at, first_from, last_to, place_before}
use Rattle.cron_moments.specs.Readings.{Reading}
use Rattle.cron_time.specs.Timeline.{timeline}
use Rattle.cron.proofs.Callers.{walk_is}
use Rattle.cron_walk_listing.specs.Output.{direction, answer_line, answers_of, lines_of, first_there, last_item}

pub lines_none : (back : Bool) (w : Walk) → lines_of back w 0 ≡ []
unfolding lines_of answers_of
lines_none back w = refl

-- the walk after a call
after : Bool → Walk → Walk
after back w = record w { cursor = (step (direction back) w).cursor }

lines_more : (back : Bool) (w : Walk) (n : ℕ) → lines_of back w (suc n) ≡ answer_line (step (direction back) w).answer ++ lines_of back (after back w) n
unfolding lines_of answers_of after
lines_more back w n = refl

after_is : (back : Bool) (old new : Walk) (r : Option Reading) → Steps (direction back) old r new → after back old ≡ new
unfolding after
after_is back old new r s = walk_is (after back old) new (sym s.sets) (sym s.zone) (sym s.cursor)

-- one line first, and then those of the walk that a call leaves
pub lines_step : (back : Bool) (old new : Walk) (r : Option Reading) (n : ℕ) → Steps (direction back) old r new
    → lines_of back old (n + 1) ≡ answer_line r ++ lines_of back new n
lines_step back old new r n s =
    ap (lines_of back old) (add-one n) ∙ (lines_more back old n
    ∙ (ap (λ (a : Option Reading). answer_line a ++ lines_of back (after back old) n) (sym s.answer)
    ∙ ap (λ (w : Walk). answer_line r ++ lines_of back w n) (after_is back old new r s)))

after_ended : (back : Bool) (w : Walk) → (step (direction back) w).cursor ≡ Ended → (after back w).cursor ≡ Ended
unfolding after
after_ended back w h = h

-- a walk that has ended gives no line
pub lines_ended : (back : Bool) (w : Walk) (n : ℕ) → w.cursor ≡ Ended → lines_of back w n ≡ []
lines_ended back w zero e = lines_none back w
lines_ended back w (suc n) e =
    let here : step (direction back) w ≡ record { answer = None; cursor = Ended } = ap (step_on (timeline w.sets w.zone) w.zone (direction back)) e in
    lines_more back w n ∙ (ap (λ (s : Step). answer_line s.answer ++ lines_of back (after back w) n) here
    ∙ lines_ended back (after back w) n (after_ended back w (ap (λ (s : Step). s.cursor) here)))

none_at : (i : ℕ) (o : Option Reading) → (item_at i o).answer ≡ None → (item_at i o).cursor ≡ Ended
none_at i None h = refl
none_at i (Some r) h = absurd (cc)

none_to : (items : List Reading) (o : Option ℕ) → (go_to items o).answer ≡ None → (go_to items o).cursor ≡ Ended
none_to items None h = refl
none_to items (Some i) h = none_at i (slice_get items i) h

-- a call that answers `None` ends the walk
none_ends : (items : List Reading) (z : TimeZone) (way : Way) (c : Cursor) → (step_on items z way c).answer ≡ None → (step_on items z way c).cursor ≡ Ended
none_ends items z Ahead (Start t) h = none_to items (first_from items (bound_ahead z t)) h
none_ends items z Back (Start t) h = none_to items (last_to items (bound_back z t)) h
none_ends items z Ahead (Place i) h = none_to items (Some (i + 1)) h
none_ends items z Back (Place i) h = none_to items (place_before i) h
none_ends items z way Ended h = refl

-- after a call that answered `None` no line is left
pub lines_stop : (back : Bool) (old new : Walk) (n : ℕ) → Steps (direction back) old None new → lines_of back old (n + 1) ≡ []
lines_stop back old new n s =
    let ended : new.cursor ≡ Ended = s.cursor ∙ none_ends (timeline old.sets old.zone) old.zone (direction back) old.cursor (sym s.answer) in
    lines_step back old new None n s ∙ lines_ended back new n ended

-- ---- the last item

last_none : (back : Bool) (w : Walk) → last_item (answers_of back w 0) ≡ None
unfolding answers_of last_item
last_none back w = refl

answers_more : (back : Bool) (w : Walk) (n : ℕ) → last_item (answers_of back w (suc n))
    ≡ first_there (last_item (answers_of back (after back w) n)) (step (direction back) w).answer
unfolding answers_of last_item after
answers_more back w n = refl

-- of one answer more, and then those of the walk that a call leaves
last_step : (back : Bool) (old new : Walk) (r : Option Reading) (n : ℕ) → Steps (direction back) old r new
    → last_item (answers_of back old (n + 1)) ≡ first_there (last_item (answers_of back new n)) r
last_step back old new r n s =
    ap (λ (k : ℕ). last_item (answers_of back old k)) (add-one n) ∙ (answers_more back old n
    ∙ (ap (λ (a : Option Reading). first_there (last_item (answers_of back (after back old) n)) a) (sym s.answer)
    ∙ ap (λ (w : Walk). first_there (last_item (answers_of back w n)) r) (after_is back old new r s)))

last_ended : (back : Bool) (w : Walk) (n : ℕ) → w.cursor ≡ Ended → last_item (answers_of back w n) ≡ None
last_ended back w zero e = last_none back w
last_ended back w (suc n) e =
    let here : step (direction back) w ≡ record { answer = None; cursor = Ended } = ap (step_on (timeline w.sets w.zone) w.zone (direction back)) e in
    answers_more back w n ∙ (ap (λ (s : Step). first_there (last_item (answers_of back (after back w) n)) s.answer) here
    ∙ ap (λ (o : Option Reading). first_there o None) (last_ended back (after back w) n (after_ended back w (ap (λ (s : Step). s.cursor) here))))

first_of_some : (o p : Option Reading) (r : Reading) → first_there (first_there o (Some r)) p ≡ first_there o (Some r)
first_of_some None p r = refl
first_of_some (Some x) p r = refl

-- after an item, the last one so far is this
pub last_more : (back : Bool) (old new : Walk) (r : Reading) (n : ℕ) (all so_far : Option Reading)
    → all ≡ first_there (last_item (answers_of back old (n + 1))) so_far
    → Steps (direction back) old (Some r) new → all ≡ first_there (last_item (answers_of back new n)) (Some r)
last_more back old new r n all so_far e s =
    e ∙ (ap (λ (o : Option Reading). first_there o so_far) (last_step back old new (Some r) n s) ∙ first_of_some (last_item (answers_of back new n)) so_far r)

-- at the end of the walk, and of the count, it is the last
pub last_stop : (back : Bool) (old new : Walk) (n : ℕ) (all so_far : Option Reading) → all ≡ first_there (last_item (answers_of back old (n + 1))) so_far
    → Steps (direction back) old None new → so_far ≡ all
last_stop back old new n all so_far e s =
    let ended : new.cursor ≡ Ended = s.cursor ∙ none_ends (timeline old.sets old.zone) old.zone (direction back) old.cursor (sym s.answer) in
    let nothing = last_step back old new None n s ∙ ap (λ (o : Option Reading). first_there o None) (last_ended back new n ended) in
    sym (e ∙ ap (λ (o : Option Reading). first_there o so_far) nothing)

pub last_done : (back : Bool) (w : Walk) (n : ℕ) (all so_far : Option Reading) → all ≡ first_there (last_item (answers_of back w n)) so_far → n ≡ 0
    → so_far ≡ all
last_done back w n all so_far e zero_left =
    let nothing = ap (λ (k : ℕ). last_item (answers_of back w k)) zero_left ∙ last_none back w in
    sym (e ∙ ap (λ (o : Option Reading). first_there o so_far) nothing)

pub last_first : (back : Bool) (w : Walk) (n : ℕ) → last_item (answers_of back w n) ≡ first_there (last_item (answers_of back w n)) None
last_first back w n = by (last_item (answers_of back w n))
  where
    by : (o : Option Reading) → o ≡ first_there o None
    by None = refl
    by (Some r) = refl
