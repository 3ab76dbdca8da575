-- A call takes the first of the items that are still to come in its direction.
use Rattle.std.proofs.Common.{◌≡◌, ℕ, zero, suc, ◌+◌, ◌<◌, ℤ, pos, int_le, Bool, false, List, [], ◌∷◌, ◌++◌, drop, take, reverse, length, Option, Some, None, refl, sym, ap, subst, ◌∙◌, arith}
use Rattle.std.specs.Prelude.{MatchOption, slice_get}
use Rattle.std.specs.Iterator.{YieldsFirst}
use Rattle.std.proofs.lemmas.Iterator.{YieldsList}
use Rattle.std.proofs.lemmas.Iterator.Consumers.{YieldsList-from_shown}
use Rattle.std.proofs.lemmas.List.{take_more, reverse-append}
use Rattle.std.proofs.lemmas.Option.{get_or_from_slice_get}
use Rattle.jiff_tz.specs.declared.timezone.TimeZone.{TimeZone}
use Rattle.cron_units.specs.declared.way.Way.{Way}
use Rattle.cron_units.specs.declared.way.Way.TheVariants.{Ahead, Back}
use Rattle.cron_time.specs.Walk.Cursor.{Cursor, Start, Place, Ended, Walk, Step, Steps, go_to, item_at, step_on, last_place, place_before}
use Rattle.cron_time.specs.Walk.Inner.Placed.{answer_of, cursor_of, place_of, IsPlaced}
use Rattle.cron_moments.specs.Readings.{Reading}
use Rattle.cron_time.specs.Walk.Rest.{Gives, items_from, rest_on, rest}
use Rattle.cron_units.specs.Sets.{Sets}
use Rattle.cron_time.specs.Walk.Inner.Stop.{IsReached, IsStop}
use Rattle.cron_time.specs.Timeline.{timeline}
use Rattle.cron_time.specs.Walk.Ways.{target, place_from, place_beside, bound}
use Rattle.cron_time.specs.Walk.Inner.Stand.{Stand}
use Rattle.cron_time.specs.Walk.Inner.Stand as Kept
use Rattle.cron_time.proofs.PlaceLemmas.{position-in}
use Rattle.cron_time.proofs.Walks.StepLemmas.{kept_in, reached_none}
use Rattle.cron_time.specs.Search.{stands}

-- the step goes from one list of items to come to the next
abbrev Takes : Way → List Reading → TimeZone → List Reading → Step → Type 0
Takes way items z all s = MatchOption s.answer ((all ≡ []) × (rest_on way items z s.cursor ≡ [])) (λ x. all ≡ x ∷ rest_on way items z s.cursor)

-- a place is one of the list, where a call back needs it
abbrev IsIn : Way → List Reading → Option ℕ → Type 0
IsIn Back items (Some i) = i < length items
IsIn way items place = Unit {0}

drop_cases : {A : Type 0} (xs : List A) (i : ℕ) → MatchOption (slice_get xs i) (drop i xs ≡ []) (λ x. drop i xs ≡ x ∷ drop (i + 1) xs)
drop_cases [] zero = refl
drop_cases [] (suc i) = refl
drop_cases (x ∷ xs) zero = refl
drop_cases (x ∷ xs) (suc i) =
    let next : suc i + 1 ≡ suc (i + 1) = omega arith in rw next (drop_cases xs i)

takes_ahead : (items : List Reading) (z : TimeZone) (i : ℕ) (o : Option Reading)
    → MatchOption o (drop i items ≡ []) (λ x. drop i items ≡ x ∷ drop (i + 1) items) → Takes Ahead items z (drop i items) (item_at i o)
takes_ahead items z i None h = (h, refl)
takes_ahead items z i (Some x) h = h

-- the items back from a place, that one left out
before_place : (items : List Reading) (i : ℕ) → items_from Back items (place_beside Back i) ≡ reverse (take i items)
before_place items zero = refl
before_place items (suc i) = let e : i + 1 ≡ suc i = omega arith in rw e refl

takes_back : (items : List Reading) (z : TimeZone) (i : ℕ) (o : Option Reading) → i < length items → slice_get items i ≡ o
    → Takes Back items z (reverse (take (i + 1) items)) (item_at i o)
takes_back items z i None lt e = absurd (there items i lt e)
  where
    there : (xs : List Reading) (k : ℕ) → k < length xs → slice_get xs k ≡ None → ⊥
    there [] k h g = omega arith
    there (x ∷ xs) zero h g = cc
    there (x ∷ xs) (suc k) h g = there xs k (omega arith) g
takes_back items z i (Some x) lt e =
    ap reverse (take_more items i x lt ∙ ap (λ y. take i items ++ y ∷ []) (get_or_from_slice_get items i x x e))
    ∙ reverse-append (take i items) (x ∷ [])
    ∙ ap (λ xs. x ∷ xs) (sym (before_place items i))

takes_go_to : (way : Way) (items : List Reading) (z : TimeZone) (place : Option ℕ) → IsIn way items place
    → Takes way items z (items_from way items place) (go_to items place)
takes_go_to way items z None h = (refl, refl)
takes_go_to Ahead items z (Some i) h = takes_ahead items z i (slice_get items i) (drop_cases items i)
takes_go_to Back items z (Some i) h = takes_back items z i (slice_get items i) h refl

pub step-target : (way : Way) (items : List Reading) (z : TimeZone) (c : Cursor) → step_on items z way c ≡ go_to items (target way items z c)
step-target Ahead items z (Start t) = refl
step-target Back items z (Start t) = refl
step-target Ahead items z (Place i) = refl
step-target Back items z (Place i) = refl
step-target way items z Ended = refl

-- from where a walk stands
target-in : (way : Way) (s : Sets) (z : TimeZone) (state : Stand) → IsPlaced s z state
    → IsIn way (timeline s z) (target way (timeline s z) z (cursor_of s z state))
target-in Ahead s z state h = tt
target-in Back s z (Kept.Start t) h = back_in (bound Back z t)
  where
    found_in : (p : Reading → ℤ → Bool) (b : ℤ) → IsIn Back (timeline s z) (last_place (λ r. p r b) (timeline s z))
    found_in p b = by_place (last_place (λ r. p r b) (timeline s z)) refl
      where
        by_place : (o : Option ℕ) → last_place (λ r. p r b) (timeline s z) ≡ o → IsIn Back (timeline s z) o
        by_place None e = tt
        by_place (Some i) e = position-in (λ r. p r b) (timeline s z) i e

    back_in : (o : Option ℤ) → IsIn Back (timeline s z) (place_from Back (timeline s z) o)
    back_in None = tt
    back_in (Some b) = found_in (λ r c. int_le (pos r.second) c) b
target-in Back s z (Kept.At f later) h = before_in (place_of s z f.first.second later) (kept_in s z f later h)
  where
    before_in : (i : ℕ) → i < length (timeline s z) → IsIn Back (timeline s z) (place_before i)
    before_in zero lt = tt
    before_in (suc i) lt = omega arith
target-in Back s z Kept.Ended h = tt

-- a call of a walk takes the first of the items to come
yields : (way : Way) (s : Sets) (z : TimeZone) (from to : Stand) (old : Walk) (r : Option Reading) → IsPlaced s z from
    → record { sets = s; zone = z; cursor = cursor_of s z from } ≡ old → IsStop way s z (cursor_of s z from) to → r ≡ answer_of to
    → YieldsFirst (rest way) old r (record { sets = s; zone = z; cursor = cursor_of s z to })
yields way s z from to old r placed is stop answer =
    let items = timeline s z in
    let c = cursor_of s z from in
    let took = takes_go_to way items z (target way items z c) (target-in way s z from placed) in
    let stepped : go_to items (target way items z c) ≡ record { answer = answer_of to; cursor = cursor_of s z to } = sym (step-target way items z c)
    ∙ stop.leads in
    rw (answer, ← is) (rw stepped at took)

-- a call of a walk makes a step of its cursor
steps : (way : Way) (s : Sets) (z : TimeZone) (from to : Stand) (old : Walk) (r : Option Reading)
    → record { sets = s; zone = z; cursor = cursor_of s z from } ≡ old → IsStop way s z (cursor_of s z from) to → r ≡ answer_of to
    → Steps way old r (record { sets = s; zone = z; cursor = cursor_of s z to })
steps way s z from to old r is stop answer =
    rw (← is) (record {
      answer = answer ∙ ap (λ (q : Step). q.answer) (sym stop.leads);
      cursor = ap (λ (q : Step). q.cursor) (sym stop.leads);
      sets = refl;
      zone = refl;
    })

pub gives : (way : Way) (s : Sets) (z : TimeZone) (from to : Stand) (old : Walk) (r : Option Reading) → IsPlaced s z from
    → record { sets = s; zone = z; cursor = cursor_of s z from } ≡ old → IsStop way s z (cursor_of s z from) to → r ≡ answer_of to
    → Gives way old r (record { sets = s; zone = z; cursor = cursor_of s z to })
gives way s z from to old r placed is stop answer =
    record { cursor = steps way s z from to old r is stop answer; items = yields way s z from to old r placed is stop answer }

-- a walk as an iterator, for a caller's chain of adapters: its items are those that are still to come
pub YieldsList-from_walk : (way : Way) {w : Walk} (items : List Reading) → rest way w ≡ items → YieldsList (Gives way) (λ x. x) w items
YieldsList-from_walk way {w} items is =
    subst (YieldsList (Gives way) (λ x. x) w) is (YieldsList-from_shown (Gives way) (λ x. x) (rest way) (λ s t g. ap length g.items.0) (λ s x t g. g.items) w)

-- a call at a start leaves the walk at the first item from the bound on
pub start_stop : (way : Way) (s : Sets) (z : TimeZone) (t : ℤ) (b : ℤ) (stand : Stand) → bound way z t ≡ Some b → IsReached way s z b stand
    → IsStop way s z (Start t) stand
start_stop way s z t b stand e h = record {
  placed = h.placed;
  leads = step-target way (timeline s z) z (Start t) ∙ ap (λ x. go_to (timeline s z) (place_from way (timeline s z) x)) e ∙ h.leads;
}

place_from_nothing : (way : Way) (items : List Reading) → place_from way items None ≡ None
place_from_nothing Ahead items = refl
place_from_nothing Back items = refl

pub start_ends : (way : Way) (s : Sets) (z : TimeZone) (t : ℤ) → bound way z t ≡ None → IsStop way s z (Start t) Kept.Ended
start_ends way s z t e = record {
  placed = tt;
  leads = step-target way (timeline s z) z (Start t) ∙ ap (λ x. go_to (timeline s z) (place_from way (timeline s z) x)) e
      ∙ ap (go_to (timeline s z)) (place_from_nothing way (timeline s z));
}

-- a call at a start where no civil second stands ends the walk, whatever its bound is
pub start_nowhere : (way : Way) (s : Sets) (z : TimeZone) (t : ℤ) → ((k : ℕ) → stands s z k ≡ false) → IsStop way s z (Start t) Kept.Ended
start_nowhere way s z t none = by_bound (bound way z t) refl
  where
    by_bound : (b : Option ℤ) → bound way z t ≡ b → IsStop way s z (Start t) Kept.Ended
    by_bound None e = start_ends way s z t e
    by_bound (Some b) e = start_stop way s z t b Kept.Ended e (reached_none way s z b (λ k lies. none k))
