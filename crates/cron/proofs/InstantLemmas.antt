-- The first two answers of a walk in a zone with one offset.
use Rattle.std.proofs.Common.{◌≡◌, ℕ, ◌+◌, ℤ, pos, ◌*ℤ◌, List, Option, Some, None, refl, sym, ap, ◌∙◌, subst, slice_get}
use Rattle.jiff_core.specs.Timestamp.{IsTimestampNanos}
use Rattle.jiff_tz.specs.declared.timezone.TimeZone.{TimeZone}
use Rattle.cron_units.specs.Sets.{Sets}
use Rattle.cron_units.specs.declared.way.Way.TheVariants.{Ahead}
use Rattle.cron_time.specs.Walk.Bounds.{bound_ahead}
use Rattle.cron_time.specs.Walk.Cursor.{Cursor, Start, Place, Ended, Walk, Step, Steps, step, step_on, go_to, item_at, first_from}
use Rattle.cron_time.specs.Walk.FixedLaws.{HasOneOffset}
use Rattle.cron_moments.specs.Readings.{Reading, instant}
use Rattle.cron_time.specs.Timeline.{timeline}
use Rattle.cron_time.proofs.Walks.FixedLemmas.{first_is_least, next_is_least}
use Rattle.cron.specs.Instants.{IsLeastIfAny, IsNextIfAny, AreFirstTwo}

-- a walk that starts at t
record StartsAt (s : Sets) (z : TimeZone) (t : ℤ) (w : Walk) : Type 0 where
  sets : w.sets ≡ s
  zone : w.zone ≡ z
  cursor : w.cursor ≡ Start t

first_step : (s : Sets) (z : TimeZone) (t : ℤ) (w : Walk) → StartsAt s z t w → step Ahead w ≡ step_on (timeline s z) z Ahead (Start t)
first_step s z t w h = rw (h.sets, h.zone, h.cursor) refl

pub least_first : (s : Sets) (z : TimeZone) (o t : ℤ) (old new : Walk) (r : Option Reading) → old.sets ≡ s → old.zone ≡ z → old.cursor ≡ Start t
    → HasOneOffset z o → IsTimestampNanos t → Steps Ahead old r new → IsLeastIfAny s o t r
least_first s z o t old new r p q c one in_range call =
    let at = first_step s z t old (record { sets = p; zone = q; cursor = c }) in
    let answer : (step_on (timeline s z) z Ahead (Start t)).answer ≡ r = sym (call.answer ∙ ap (λ (x : Step). x.answer) at) in
    subst (IsLeastIfAny s o t) answer (first_is_least s z o t one in_range)

item_placed : (i : ℕ) (o : Option Reading) (x : Reading) → (item_at i o).answer ≡ Some x → ((item_at i o).cursor ≡ Place i) × (o ≡ Some x)
item_placed i None x h = absurd (cc)
item_placed i (Some r) x h = (refl, h)

-- a call that answers an item leaves the cursor at its place
pub placed : (items : List Reading) (o : Option ℕ) (x : Reading) → (go_to items o).answer ≡ Some x
    → (i : ℕ) × ((go_to items o).cursor ≡ Place i) × (slice_get items i ≡ Some x)
placed items None x h = absurd (cc)
placed items (Some i) x h = let at = item_placed i (slice_get items i) x h in (i, at.0, at.1)

-- a call that answers none leaves the walk ended
ended : (items : List Reading) (o : Option ℕ) → (go_to items o).answer ≡ None → (go_to items o).cursor ≡ Ended
ended items None h = refl
ended items (Some i) h = at_place (slice_get items i) h
  where
    at_place : (x : Option Reading) → (item_at i x).answer ≡ None → (item_at i x).cursor ≡ Ended
    at_place None e = refl
    at_place (Some r) e = absurd (cc)

answer_at : (i : ℕ) (o : Option Reading) → (item_at i o).answer ≡ o
answer_at i None = refl
answer_at i (Some r) = refl

second_is_least : (s : Sets) (z : TimeZone) (o t : ℤ) (first second : Option Reading) (c : Cursor) → HasOneOffset z o
    → first ≡ (step_on (timeline s z) z Ahead (Start t)).answer
    → c ≡ (step_on (timeline s z) z Ahead (Start t)).cursor → second ≡ (step_on (timeline s z) z Ahead c).answer
    → IsNextIfAny s o first second
second_is_least s z o t None second c one a at b =
    b ∙ ap (λ (x : Cursor). (step_on (timeline s z) z Ahead x).answer) (at ∙ ended (timeline s z) (first_from (timeline s z) (bound_ahead z t)) (sym a))
second_is_least s z o t (Some r) second c one a at b =
    let (i, here, item) = placed (timeline s z) (first_from (timeline s z) (bound_ahead z t)) r (sym a) in
    let answer : second ≡ slice_get (timeline s z) (i + 1) =
    b ∙ (ap (λ (x : Cursor). (step_on (timeline s z) z Ahead x).answer) (at ∙ here) ∙ answer_at (i + 1) (slice_get (timeline s z) (i + 1))) in
    subst (IsLeastIfAny s o (instant r *ℤ pos 1_000_000_000)) (sym answer) (next_is_least s z o i r one item)

-- what the second of two calls answers
second_answer : (s : Sets) (z : TimeZone) (old new last : Walk) (first second : Option Reading) → old.sets ≡ s → old.zone ≡ z
    → Steps Ahead old first new → Steps Ahead new second last → second ≡ (step_on (timeline s z) z Ahead new.cursor).answer
second_answer s z old new last first second p q one two =
    let next : step Ahead new ≡ step_on (timeline s z) z Ahead new.cursor = rw (one.sets ∙ p, one.zone ∙ q) refl in
    two.answer ∙ ap (λ (x : Step). x.answer) next

pub next_least : (s : Sets) (z : TimeZone) (o t : ℤ) (old new last : Walk) (first second : Option Reading) → old.sets ≡ s → old.zone ≡ z
    → old.cursor ≡ Start t → HasOneOffset z o
    → Steps Ahead old first new → Steps Ahead new second last → IsNextIfAny s o first second
next_least s z o t old new last first second p q c single one two =
    let at = first_step s z t old (record { sets = p; zone = q; cursor = c }) in
    second_is_least s z o t first second new.cursor single (one.answer ∙ ap (λ (x : Step). x.answer) at) (one.cursor ∙ ap (λ (x : Step). x.cursor) at)
    (second_answer s z old new last first second p q one two)

pub first_two : (s : Sets) (z : TimeZone) (t : ℤ) (old new last : Walk) (first second : Option Reading) → old.sets ≡ s → old.zone ≡ z
    → old.cursor ≡ Start t → Steps Ahead old first new → Steps Ahead new second last → AreFirstTwo s z t first second
first_two s z t old new last first second p q c one two =
    let at = first_step s z t old (record { sets = p; zone = q; cursor = c }) in
    let here = one.cursor ∙ ap (λ (x : Step). x.cursor) at in
    rw (second_answer s z old new last first second p q one two, here, one.answer, at) refl
