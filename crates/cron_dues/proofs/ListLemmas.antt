-- Lists that ascend by a key.
use Rattle.std.proofs.Common.{◌≡◌, ℕ, zero, suc, ◌<◌, Bool, true, false, cond, List, [], ◌∷◌, ◌++◌, Some, inl, inr, refl, sym, ap, ◌∙◌, arith}
use Rattle.std.specs.Prelude.{filter, map, slice_get}
use Rattle.cron_time.proofs.ListLemmas.{Among, among-below, among-cases, among-filter, among-first, among-join, among-map, among-none, among-rest}
use Rattle.cron_time.proofs.PlaceLemmas.{nothing_in_nil}
use Rattle.cron_time.specs.Seconds.{numbers_below}
use Rattle.cron_dues.specs.Ascent.{Ascends}

pub ascends-at : {A : Type 0} (key : A → ℕ) (l : List A) (i j : ℕ) (x y : A) → Ascends key l → i < j → slice_get l i ≡ Some x → slice_get l j ≡ Some y
    → key x < key y
ascends-at key [] i j x y up less e f = absurd (nothing_in_nil i x e)
ascends-at key (a ∷ l) zero zero x y up less e f = absurd (omega arith)
ascends-at key (a ∷ l) zero (suc j) x y up less e f = let same : a ≡ x = cc in rw (← same) (up.0 y (j, f))
ascends-at key (a ∷ l) (suc i) zero x y up less e f = absurd (omega arith)
ascends-at key (a ∷ l) (suc i) (suc j) x y up less e f = ascends-at key l i j x y up.1 (omega arith) e f

pub ascends-join : {A : Type 0} (key : A → ℕ) (l m : List A) → Ascends key l → Ascends key m
    → ((x y : A) → Among l x → Among m y → key x < key y) → Ascends key (l ++ m)
ascends-join key [] m up over less = over
ascends-join key (a ∷ l) m up over less = (
  λ y h. elim (among-join l m y h) [ inl in_l ↦ up.0 y in_l | inr in_m ↦ less a y (among-first a l) in_m ],
  ascends-join key l m up.1 over (λ x y one other. less x y (among-rest a x l one) other),
)

ascends_filter-by : {A : Type 0} (key : A → ℕ) (p : A → Bool) (x : A) (l : List A) (b : Bool) → Ascends key (x ∷ l) → Ascends key (filter p l)
    → Ascends key (cond b (x ∷ filter p l) (filter p l))
ascends_filter-by key p x l true up below = (λ y h. up.0 y (among-filter p l y h).0, below)
ascends_filter-by key p x l false up below = below

pub ascends-filter : {A : Type 0} (key : A → ℕ) (p : A → Bool) (l : List A) → Ascends key l → Ascends key (filter p l)
ascends-filter key p [] up = up
ascends-filter key p (x ∷ l) up = ascends_filter-by key p x l (p x) up (ascends-filter key p l up.1)

pub ascends-map : {A B : Type 0} (key : B → ℕ) (f : A → B) (l : List A) → Ascends (λ x. key (f x)) l → Ascends key (map f l)
ascends-map key f [] up = tt
ascends-map key f (x ∷ l) up = (
  λ y h. let source = among-map f l y h in rw source.is (up.0 source.of source.there),
  ascends-map key f l up.1,
)

pub numbers-ascend : (n : ℕ) → Ascends (λ k. k) (numbers_below n)
unfolding numbers_below
numbers-ascend zero = tt
numbers-ascend (suc n) =
    ascends-join (λ k. k) (numbers_below n) (n ∷ []) (numbers-ascend n) (λ y h. absurd (among-none y h), tt)
    (λ x y one other. elim (among-cases n [] y other) [
      | inl e ↦ let less = among-below n x one in omega arith
      | inr none ↦ absurd (among-none y none)
    ])

-- ---- two lists with the same elements

first_same : {A : Type 0} (key : A → ℕ) (x y : A) (l m : List A) → Ascends key (x ∷ l) → Ascends key (y ∷ m) → Among (y ∷ m) x → Among (x ∷ l) y → x ≡ y
first_same key x y l m up over there here = elim (among-cases y m x there) [
  | inl e ↦ e
  | inr behind ↦ elim (among-cases x l y here) [
    | inl e ↦ sym e
    | inr ahead ↦ let less = over.0 x behind in let more = up.0 y ahead in absurd (omega arith)
  ]
]

rest_same : {A : Type 0} (key : A → ℕ) (x y q : A) (l m : List A) → Ascends key (x ∷ l) → x ≡ y → Among l q → Among (y ∷ m) q → Among m q
rest_same key x y q l m up same here there = elim (among-cases y m q there) [
  | inl e ↦ let less = up.0 q here in let self : key q ≡ key x = ap key (e ∙ sym same) in absurd (omega arith)
  | inr behind ↦ behind
]

-- two ascending lists that have the same elements are one
pub same_lists : {A : Type 0} (key : A → ℕ) (l m : List A) → Ascends key l → Ascends key m → ((x : A) → Among l x → Among m x)
    → ((x : A) → Among m x → Among l x) → l ≡ m
same_lists key [] [] up over to from = refl
same_lists key [] (y ∷ m) up over to from = absurd (among-none y (from y (among-first y m)))
same_lists key (x ∷ l) [] up over to from = absurd (among-none x (to x (among-first x l)))
same_lists key (x ∷ l) (y ∷ m) up over to from =
    let same = first_same key x y l m up over (to x (among-first x l)) (from y (among-first y m)) in
    ap (λ a. a ∷ l) same
    ∙ ap (λ k. y ∷ k) (same_lists key l m up.1 over.1 (λ q h. rest_same key x y q l m up same h (to q (among-rest x q l h)))
    (λ q h. rest_same key y x q m l over (sym same) h (from q (among-rest y q m h))))
