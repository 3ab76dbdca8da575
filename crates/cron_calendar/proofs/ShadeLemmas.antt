-- The shades of a year's days, and their levels and squares.
use Rattle.std.proofs.Common.{◌≡◌, ℕ, suc, ◌+◌, ◌-◌, ◌*◌, ◌/◌, ◌<◌, Bool, true, false, cond, List, [], ◌∷◌, ◌++◌, get_or, length, min, refl, sym, ap, ◌∙◌, take, take-suc, append_assoc, append-nil, arith, length-append}
use Rattle.std.specs.Prelude.{filter, map}
use Rattle.std.specs.List.{flat_map, range_with_len}
use Rattle.std.proofs.Math.Nat.{div-lt_iff_lt-mul}
use Rattle.std.proofs.lemmas.List.{map-append}
use Rattle.std.proofs.lemmas.List.Elements.{filter-append}
use Rattle.std.proofs.lemmas.List.FromFn.{map-range_with_len_more}
use Rattle.cron_calendar.specs.Plans.{shades_of}
use Rattle.cron_calendar.specs.declared.html.shapes.Shape.{Shape}

-- ---- how many of a list pass a test, with one more

ones : Bool → ℕ
ones true = 1
ones false = 0

length_if : (b : Bool) (x : List ℕ) → length (cond b (x ∷ []) []) ≡ ones b
unfolding ones
length_if true x = refl
length_if false x = refl

passed-more : {X : Type 0} (f : X → List ℕ) (p : List ℕ → Bool) (xs : List X) (i : ℕ) (x d : X) → i < length xs → x ≡ get_or xs i d
    → length (filter p (map f (take (i + 1) xs))) ≡ length (filter p (map f (take i xs))) + ones (p (f x))
passed-more f p xs i x d within is =
    let next : i + 1 ≡ suc i = omega arith in
    let taken = ap (λ n. take n xs) next ∙ (take-suc xs i d within ∙ ap (λ y. take i xs ++ y ∷ []) (sym is)) in
    ap (λ l. length (filter p (map f l))) taken
    ∙ (ap (λ l. length (filter p l)) (map-append f (take i xs) (x ∷ []))
    ∙ (ap length (filter-append p (map f (take i xs)) (f x ∷ []))
    ∙ (length-append (filter p (map f (take i xs))) (filter p (f x ∷ [])) ∙ ap (λ n. length (filter p (map f (take i xs))) + n) (length_if (p (f x)) (f x)))))

pub shade-more : {X : Type 0} (f : X → List ℕ) (p : List ℕ → Bool) (xs : List X) (i : ℕ) (x d : X) (old new : ℕ) → i < length xs → x ≡ get_or xs i d
    → old ≡ min (length (filter p (map f (take i xs)))) 4_294_967_295 → p (f x) ≡ true → new ≡ min (old + 1) 4_294_967_295
    → new ≡ min (length (filter p (map f (take (i + 1) xs)))) 4_294_967_295
unfolding ones
shade-more f p xs i x d old new within is before passes e =
    let more = passed-more f p xs i x d within is ∙ ap (λ b. length (filter p (map f (take i xs))) + ones b) passes in
    rw more (grind arith)

pub shade-kept : {X : Type 0} (f : X → List ℕ) (p : List ℕ → Bool) (xs : List X) (i : ℕ) (x d : X) (old : ℕ) → i < length xs → x ≡ get_or xs i d
    → old ≡ min (length (filter p (map f (take i xs)))) 4_294_967_295 → p (f x) ≡ false
    → old ≡ min (length (filter p (map f (take (i + 1) xs)))) 4_294_967_295
unfolding ones
shade-kept f p xs i x d old within is before passes =
    let more = passed-more f p xs i x d within is ∙ ap (λ b. length (filter p (map f (take i xs))) + ones b) passes in
    rw more (grind arith)

-- ---- levels

pub level-few : (count most : ℕ) → 0 < most → (min count most * 4 + most - 1) / most < 5
level-few count most some = (div-lt_iff_lt-mul some).1 (grind arith)

-- ---- squares, with one more

pub squares-more : (f : ℕ → Shape) (place : ℕ) (base old new : List Shape) (shape : Shape) → old ≡ base ++ map f (range_with_len 0 place) → shape ≡ f place
    → new ≡ old ++ shape ∷ [] → new ≡ base ++ map f (range_with_len 0 (place + 1))
squares-more f place base old new shape before e is =
    let here : 0 + place ≡ place = omega arith in
    is ∙ (ap (λ l. l ++ shape ∷ []) before ∙ (append_assoc base (map f (range_with_len 0 place)) (shape ∷ [])
    ∙ ap (λ l. base ++ l) (ap (λ k. map f (range_with_len 0 place) ++ k ∷ []) e ∙ sym (map-range_with_len_more f 0 place place here))))

pub squares-none : (f : ℕ → Shape) (base : List Shape) → base ≡ base ++ map f (range_with_len 0 0)
squares-none f base = sym (append-nil base)

-- ---- one plan

pub one_plan : {X : Type 0} (f : X → List ℕ) (xs : List X) (days : ℕ) → length xs ≡ 1 → flat_map f xs ≡ shades_of days (map f xs)
one_plan f [] days one = absurd (omega arith)
one_plan f (x ∷ []) days one = append-nil (f x)
one_plan f (x ∷ y ∷ xs) days one = absurd (omega arith)
