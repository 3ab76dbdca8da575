-- The item after a noted one.
use Rattle.std.proofs.Common.{◌≡◌, ℕ, ◌+◌, Option, Some, None, refl, ap, ◌∙◌, slice_get}
use Rattle.jiff_core.specs.declared.Offset.{Offset}
use Rattle.jiff_core.specs.declared.civil.datetime.DateTime.{DateTime}
use Rattle.jiff_tz.specs.declared.timezone.TimeZone.{TimeZone}
use Rattle.cron.specs.Words.{Sets, Reading, Walk, Step, Steps, Ahead, timeline, step_on, go_to, item_at, civil, HasParts, IsResumed, ItemsAreInRange, ItemsStandOnce}

-- what a call ahead of a place answers is the item there
answer_at : (i : ℕ) (o : Option Reading) → (item_at i o).answer ≡ o
answer_at i None = refl
answer_at i (Some r) = refl

-- the parts of an item make it again
pub made_again : (s : Sets) (z : TimeZone) (shown : DateTime) (o : Offset) (made : Option Reading) → ItemsAreInRange
    → ((m : Reading) → HasParts shown o m → made ≡ Some m)
    → (i : ℕ) (r : Reading) → slice_get (timeline s z) i ≡ Some r → civil r.second ≡ shown → r.offset ≡ o → made ≡ Some r
made_again s z shown o made in_range only i r item same_time same_offset =
    only r (record { in_range = in_range s z i r item; shown_is = same_time; offset_is = same_offset })

pub next_of : (s : Sets) (z : TimeZone) (last r : Reading) (i : ℕ) (walk after : Walk) (answer : Option Reading) → ItemsStandOnce → Some last ≡ Some r
    → slice_get (timeline s z) i ≡ Some r
    → IsResumed s z last walk → Steps Ahead walk answer after → answer ≡ slice_get (timeline s z) (i + 1)
next_of s z last r i walk after answer once same item resumed call =
    let items = timeline s z in
    let place : resumed.at.place ≡ i = once s z resumed.at.place i r (resumed.at.item ∙ same) item in
    let here : step_on (timeline walk.sets walk.zone) walk.zone Ahead walk.cursor ≡ go_to items (Some (i + 1)) =
    rw (resumed.sets, resumed.zone, resumed.at.cursor, place) refl in
    call.answer ∙ (ap (λ (t : Step). t.answer) here ∙ answer_at (i + 1) (slice_get items (i + 1)))

pub not_none : (r : Reading) → None ≡ Some r → ⊥
not_none r e = cc

pub same_reading : (m r : Reading) → Some m ≡ Some r → m ≡ r
same_reading m r e = cc
