-- The place of the first and of the last element that passes a test.
use Rattle.std.proofs.Common.{◌≡◌, ℕ, zero, suc, ◌+◌, ◌<◌, ℤ, pos, ◌≤ℤ◌, int_le, Bool, true, false, List, [], ◌∷◌, ◌++◌, length, Option, Some, None, refl, ap, ◌∙◌, arith}
use Rattle.std.specs.Prelude.{slice_get, position}
use Rattle.std.specs.List.{position_from}
use Rattle.std.proofs.lemmas.Int.{ints}
use Rattle.std.proofs.lemmas.Iterator.Adapters.{position_from-zero}
use Rattle.cron_units.specs.declared.way.Way.{Way}
use Rattle.cron_units.specs.declared.way.Way.TheVariants.{Ahead, Back}
use Rattle.cron_units.specs.Nearest.{LiesFrom, Precedes}
use Rattle.cron_time.specs.Walk.Cursor.{last_place, place_in_tail}
use Rattle.cron_moments.specs.Readings.{Reading}
use Rattle.cron_time.specs.Walk.Ways.{place_from}

-- ---- lists

pub slice_get-append : {A : Type 0} (xs ys : List A) (i : ℕ) → slice_get (xs ++ ys) (length xs + i) ≡ slice_get ys i
slice_get-append [] ys i = let e : 0 + i ≡ i = omega arith in rw e
slice_get-append (x ∷ xs) ys i = let e : suc (length xs) + i ≡ suc (length xs + i) = omega arith in rw e (slice_get-append xs ys i)

pub slice_get-left : {A : Type 0} (xs ys : List A) (i : ℕ) → i < length xs → slice_get (xs ++ ys) i ≡ slice_get xs i
slice_get-left [] ys i h = absurd (omega arith)
slice_get-left (x ∷ xs) ys zero h = refl
slice_get-left (x ∷ xs) ys (suc i) h = slice_get-left xs ys i (omega arith)

pub nothing_in_nil : {A : Type 0} (i : ℕ) (x : A) → slice_get [] i ≡ Some x → ⊥
nothing_in_nil zero x e = cc
nothing_in_nil (suc i) x e = cc

module _ {A : Type 0} (p : A → Bool) where
  position_from-at : (n : ℕ) (xs : List A) (i : ℕ) (x : A) → slice_get xs i ≡ Some x → p x ≡ true
      → ((k : ℕ) (y : A) → k < i → slice_get xs k ≡ Some y → p y ≡ false) → position_from p n xs ≡ Some (n + i)
  position_from-at n [] i x here holds none = absurd (nothing_in_nil i x here)
  position_from-at n (y ∷ ys) zero x here holds none =
      let passes : p y ≡ true = cc in rw passes (ap Some (omega arith))
  position_from-at n (y ∷ ys) (suc i) x here holds none =
      let fails : p y ≡ false = none 0 y (omega arith) refl in
      rw fails (position_from-at (n + 1) ys i x here holds (λ k w lt at. none (suc k) w (omega arith) at) ∙ ap Some (omega arith))

  position_from-none : (n : ℕ) (xs : List A) → ((k : ℕ) (y : A) → slice_get xs k ≡ Some y → p y ≡ false) → position_from p n xs ≡ None
  position_from-none n [] none = refl
  position_from-none n (y ∷ ys) none =
      let fails : p y ≡ false = none 0 y refl in
      rw fails (position_from-none (n + 1) ys (λ k w at. none (suc k) w at))

  position-at : (xs : List A) (i : ℕ) (x : A) → slice_get xs i ≡ Some x → p x ≡ true → ((k : ℕ) (y : A) → k < i → slice_get xs k ≡ Some y → p y ≡ false)
      → position p xs ≡ Some i
  position-at xs i x here holds none =
      position_from-zero p xs ∙ position_from-at 0 xs i x here holds none ∙ ap Some (omega arith)

  position-none : (xs : List A) → ((k : ℕ) (y : A) → slice_get xs k ≡ Some y → p y ≡ false) → position p xs ≡ None
  position-none xs none = position_from-zero p xs ∙ position_from-none 0 xs none

  last_place-none : (xs : List A) → ((k : ℕ) (y : A) → slice_get xs k ≡ Some y → p y ≡ false) → last_place p xs ≡ None
  last_place-none [] none = refl
  last_place-none (y ∷ ys) none =
      let fails : p y ≡ false = none 0 y refl in
      rw (fails, last_place-none ys (λ k w at. none (suc k) w at)) refl

  last_place-at : (xs : List A) (i : ℕ) (x : A) → slice_get xs i ≡ Some x → p x ≡ true → ((k : ℕ) (y : A) → i < k → slice_get xs k ≡ Some y → p y ≡ false)
      → last_place p xs ≡ Some i
  last_place-at [] i x here holds none = absurd (nothing_in_nil i x here)
  last_place-at (y ∷ ys) zero x here holds none =
      let passes : p y ≡ true = cc in
      rw (passes, last_place-none ys (λ k w at. none (suc k) w (omega arith) at)) refl
  last_place-at (y ∷ ys) (suc i) x here holds none =
      rw (last_place-at ys i x here holds (λ k w gt at. none (suc k) w (omega arith) at)) (ap Some (omega arith))

  -- a place that is found is one of the list
  pub position-in : (xs : List A) (i : ℕ) → last_place p xs ≡ Some i → i < length xs
  position-in [] i e = cc
  position-in (y ∷ ys) i e = in_tail (p y) (last_place p ys) (λ j. position-in ys j) e
    where
      in_tail : (b : Bool) (o : Option ℕ) → ((j : ℕ) → o ≡ Some j → j < length ys) → place_in_tail b o ≡ Some i → i < suc (length ys)
      in_tail b (Some j) h k = let lt = h j refl in let e : j + 1 ≡ i = cc in omega arith
      in_tail true None h k = let e : 0 ≡ i = cc in omega arith
      in_tail false None h k = cc

-- ---- items from a bound on

pub holds_le : (a b : ℤ) → a ≤ℤ b → int_le a b ≡ true
holds_le a b h = grind (arith, ints)

pub fails_le : (a b : ℤ) → ¬ (a ≤ℤ b) → int_le a b ≡ false
fails_le a b h = grind (arith, ints)

-- the place of an item from the bound on, before which there is none
pub place_from-at : (way : Way) (b : ℤ) (items : List Reading) (i : ℕ) (x : Reading) → slice_get items i ≡ Some x → LiesFrom way b x.second
    → ((k : ℕ) (y : Reading) → Precedes way k i → slice_get items k ≡ Some y → ¬ (LiesFrom way b y.second)) → place_from way items (Some b) ≡ Some i
place_from-at Ahead b items i x here holds none =
    position-at (λ (r : Reading). int_le b (pos r.second)) items i x here (holds_le b (pos x.second) holds)
    (λ k y lt at. fails_le b (pos y.second) (none k y lt at))
place_from-at Back b items i x here holds none =
    last_place-at (λ (r : Reading). int_le (pos r.second) b) items i x here (holds_le (pos x.second) b holds)
    (λ k y gt at. fails_le (pos y.second) b (none k y gt at))

pub place_from-none : (way : Way) (b : ℤ) (items : List Reading) → ((k : ℕ) (y : Reading) → slice_get items k ≡ Some y → ¬ (LiesFrom way b y.second))
    → place_from way items (Some b) ≡ None
place_from-none Ahead b items none =
    position-none (λ (r : Reading). int_le b (pos r.second)) items (λ k y at. fails_le b (pos y.second) (none k y at))
place_from-none Back b items none =
    last_place-none (λ (r : Reading). int_le (pos r.second) b) items (λ k y at. fails_le (pos y.second) b (none k y at))
