-- The first fires of two lists that collide.
use Rattle.std.proofs.Common.{◌≡◌, ◌≤◌, ◌<◌, ◌+◌, ℕ, ℤ, pos, ◌+ℤ◌, ◌≤ℤ◌, List, Bool, true, false, cond, length, get_or, take, ap, ◌∙◌, inl, inr, arith, length-take}
use Rattle.std.specs.Prelude.{slice_get, not, Option, Some, None, is_some, MatchOption}
use Rattle.std.specs.List.{count_by}
use Rattle.std.proofs.lemmas.Bool.{cases_lt}
use Rattle.std.proofs.lemmas.Int.{ints, by_lt_z}
use Rattle.std.proofs.lemmas.List.{get_or-take}
use Rattle.std.proofs.lemmas.List.Sums.{count_by-le-length, get_or-le-sum_by, sum_by_more}
use Rattle.std.proofs.lemmas.Option.{get_or_from_slice_get, slice_get-get_or, slice_get_within}
use Rattle.cron_collisions.specs.Collisions.{Ascends, CollideAt, CollideFirst, collide, pairs}
use Rattle.cron_collisions.specs.Inner.Below.{before, below}
use Rattle.cron_collisions.proofs.BelowLemmas.{below-le-length, below-mono, below-past, below-up_to, collides, collides_each}

pub get_or_default : (xs : List ℤ) (i : ℕ) (x y : ℤ) → i < length xs → get_or xs i x ≡ get_or xs i y
get_or_default xs i x y short = get_or_from_slice_get xs i (get_or xs i y) x (slice_get-get_or xs i y short)

-- one more fire of the first list
pub pairs-more : (d : ℕ) (ss ts : List ℤ) (i : ℕ) → i < length ss
    → pairs d (take (i + 1) ss) ts ≡ pairs d (take i ss) ts + count_by (collide d (get_or ss i (pos 0))) ts
pairs-more d ss ts i short = sum_by_more (λ s. count_by (collide d s) ts) ss i (pos 0) short

-- its pairs are as many as the other list has fires, or fewer
pub pairs-fit : (d : ℕ) (s : ℤ) (ts : List ℤ) → count_by (collide d s) ts ≤ length ts
pairs-fit d s ts = count_by-le-length (collide d s) ts

one_of : (d : ℕ) (s t : ℤ) (ts : List ℤ) (l : ℕ) → slice_get ts l ≡ Some t → collide d s t ≡ true → 0 < count_by (collide d s) ts
one_of d s t ts l at_t h =
    let within = slice_get_within ts l t at_t in
    let read = get_or_from_slice_get ts l t t at_t in
    let one : cond {A = ℕ} (collide d s (get_or ts l t)) 1 0 ≡ 1 = ap (λ x. cond {A = ℕ} (collide d s x) 1 0) read ∙ ap (λ y. cond {A = ℕ} y 1 0) h in
    omega (arith, get_or-le-sum_by (λ x. cond {A = ℕ} (collide d s x) 1 0) ts l t within)

-- where the first so many have no pair, no pair stands among them
further_on : (d : ℕ) (ss ts : List ℤ) (i k l : ℕ) → i < length ss → pairs d (take i ss) ts ≡ 0 → CollideAt d ss ts k l → k < i → ⊥
further_on d ss ts i k l short none (s, t, at_s, at_t, h) less =
    let read : get_or (take i ss) k s ≡ s = get_or-take i ss k s less ∙ get_or_from_slice_get ss k s s at_s in
    let some = one_of d s t ts l at_t h in
    let same : count_by (collide d (get_or (take i ss) k s)) ts ≡ count_by (collide d s) ts = ap (λ x. count_by (collide d x) ts) read in
    let whole : k < length (take i ss) = omega (arith, length-take i ss) in
    let some_in : count_by (collide d (get_or (take i ss) k s)) ts ≤ pairs d (take i ss) ts = get_or-le-sum_by (λ x. count_by (collide d x) ts) (take i ss) k s whole in
    omega arith

-- it begins before the window's end, and has not ended
in_window : (d : ℕ) (s : ℤ) (ts : List ℤ) → Ascends ts → below (before d s) ts < below (s +ℤ pos d) ts
    → collide d s (get_or ts (below (before d s) ts) (pos 0)) ≡ true
in_window d s ts up some =
    let e = below (before d s) ts in
    let t = get_or ts e (pos 0) in
    let within : e < length ts = omega (arith, below-le-length (s +ℤ pos d) ts) in
    by_lt_z t (s +ℤ pos d)
    (λ begins.
    by_lt_z t (before d s)
    (λ ended. absurd (omega (arith, below-past (before d s) ts e (pos 0) up within (grind (arith, ints)))))
    (λ lasts. collides d s t (omega (arith, ints)) begins))
    (λ late. absurd (omega (arith, below-up_to (s +ℤ pos d) ts e (pos 0) up within (grind (arith, ints)))))

-- those of a later fire have not ended when an earlier one begins
not_ended : (d : ℕ) (ss ts : List ℤ) (i k l : ℕ) → Ascends ss → Ascends ts → i ≤ k → CollideAt d ss ts k l
    → below (before d (get_or ss i (pos 0))) ts ≤ l
not_ended d ss ts i k l ups up le (s, t, at_s, at_t, h) =
    let within = slice_get_within ss k s at_s in
    let in_order : get_or ss i (pos 0) ≤ℤ get_or ss k (pos 0) = ups i k (pos 0) le within in
    let read = get_or_from_slice_get ss k s (pos 0) at_s in
    let other = get_or_from_slice_get ts l t (pos 0) at_t in
    let both = collides_each d s t h in
    let lasts : before d (get_or ss i (pos 0)) ≤ℤ get_or ts l (pos 0) = omega (arith, ints) in
    below-up_to (before d (get_or ss i (pos 0))) ts l (pos 0) up (slice_get_within ts l t at_t) (grind (arith, ints))

first_at : (d : ℕ) (ss ts : List ℤ) (i k l : ℕ) → Ascends ss → Ascends ts → i < length ss → pairs d (take i ss) ts ≡ 0 → CollideAt d ss ts k l
    → (i ≤ k) × (below (before d (get_or ss i (pos 0))) ts ≤ l)
first_at d ss ts i k l ups up short none pair =
    elim (cases_lt k i) [
      | inl less ↦ absurd (further_on d ss ts i k l short none pair less)
      | inr le ↦ (le, not_ended d ss ts i k l ups up le pair)
    ]

pub collide-first : (d : ℕ) (ss ts : List ℤ) (i : ℕ) → Ascends ss → Ascends ts → i < length ss → pairs d (take i ss) ts ≡ 0
    → below (before d (get_or ss i (pos 0))) ts < below (get_or ss i (pos 0) +ℤ pos d) ts
    → CollideFirst d ss ts i (below (before d (get_or ss i (pos 0))) ts)
collide-first d ss ts i ups up short none some =
    let s = get_or ss i (pos 0) in
    let e = below (before d s) ts in
    let within : e < length ts = omega (arith, below-le-length (s +ℤ pos d) ts) in
    record {
      collide = (s, get_or ts e (pos 0), slice_get-get_or ss i (pos 0) short, slice_get-get_or ts e (pos 0) within, in_window d s ts up some);
      first = λ k l pair. first_at d ss ts i k l ups up short none pair;
    }

-- ---- the first pair so far

abbrev pub IsFirstSoFar : ℕ → List ℤ → List ℤ → ℕ → Option (ℕ × ℕ) → Type 0
IsFirstSoFar d ss ts i found = MatchOption found (pairs d (take i ss) ts ≡ 0) (λ f. CollideFirst d ss ts f.0 f.1)

-- none was found before ..
pub none-was : (d : ℕ) (ss ts : List ℤ) (i : ℕ) (found : Option (ℕ × ℕ)) (b : Bool) → is_some found ≡ not b → b ≡ true → IsFirstSoFar d ss ts i found
    → pairs d (take i ss) ts ≡ 0
none-was d ss ts i None b e is none = none
none-was d ss ts i (Some f) b e is first = absurd (cc)

-- .. and none is here
pub none-yet : (d : ℕ) (ss ts : List ℤ) (i : ℕ) (found : Option (ℕ × ℕ)) (b : Bool) → is_some found ≡ not b → b ≡ true
    → pairs d (take (i + 1) ss) ts ≡ 0 → IsFirstSoFar d ss ts (i + 1) found
none-yet d ss ts i None b e is none = none
none-yet d ss ts i (Some f) b e is none = absurd (cc)

-- one was found before
pub first-stays : (d : ℕ) (ss ts : List ℤ) (i : ℕ) (found : Option (ℕ × ℕ)) (b : Bool) → is_some found ≡ not b → b ≡ false → IsFirstSoFar d ss ts i found
    → IsFirstSoFar d ss ts (i + 1) found
first-stays d ss ts i None b e is none = absurd (cc)
first-stays d ss ts i (Some f) b e is first = first

-- ---- what is known of later windows

pub ended-later : (d : ℕ) (ss ts : List ℤ) (i k : ℕ) (x : ℤ) → Ascends ss → i ≤ k → k < length ss
    → below (before d (get_or ss i (pos 0))) ts ≤ below (before d (get_or ss k x)) ts
ended-later d ss ts i k x up le short =
    let in_order : get_or ss i x ≤ℤ get_or ss k x = up i k x le short in
    let same : get_or ss i (pos 0) ≡ get_or ss i x = get_or_default ss i (pos 0) x (omega arith) in
    below-mono (before d (get_or ss i (pos 0))) (before d (get_or ss k x)) ts (omega (arith, ints))

pub begun-later : (d : ℕ) (ss ts : List ℤ) (i k : ℕ) (x : ℤ) → Ascends ss → i ≤ k → k < length ss
    → below (get_or ss i (pos 0) +ℤ pos d) ts ≤ below (get_or ss k x +ℤ pos d) ts
begun-later d ss ts i k x up le short =
    let in_order : get_or ss i x ≤ℤ get_or ss k x = up i k x le short in
    let same : get_or ss i (pos 0) ≡ get_or ss i x = get_or_default ss i (pos 0) x (omega arith) in
    below-mono (get_or ss i (pos 0) +ℤ pos d) (get_or ss k x +ℤ pos d) ts (omega (arith, ints))
