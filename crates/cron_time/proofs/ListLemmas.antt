-- What stands in a list, and what is left of one.
use Rattle.std.proofs.Common.{◌≡◌, ℕ, zero, suc, ◌<◌, Bool, true, false, cond, List, [], ◌∷◌, ◌++◌, Some, ◌⊎◌, inl, inr, refl, sym, ap, ◌∙◌, arith}
use Rattle.std.specs.Prelude.{filter, map, slice_get}
use Rattle.std.proofs.lemmas.Bool.{cases_lt}
use Rattle.cron_time.specs.Seconds.{numbers_below}
use Rattle.cron_time.proofs.PlaceLemmas.{nothing_in_nil}

-- ---- what stands in a list

abbrev pub Among : {A : Type 0} → List A → A → Type 0
Among l x = (i : ℕ) × (slice_get l i ≡ Some x)

pub among-none : {A : Type 0} (x : A) → Among [] x → ⊥
among-none x h = nothing_in_nil h.0 x h.1

pub among-first : {A : Type 0} (x : A) (l : List A) → Among (x ∷ l) x
among-first x l = (0, refl)

pub among-rest : {A : Type 0} (x y : A) (l : List A) → Among l y → Among (x ∷ l) y
among-rest x y l h = (suc h.0, h.1)

cases_at : {A : Type 0} (x : A) (l : List A) (y : A) (i : ℕ) → slice_get (x ∷ l) i ≡ Some y → (y ≡ x) ⊎ Among l y
cases_at x l y zero e = let same : y ≡ x = cc in inl same
cases_at x l y (suc i) e = inr (i, e)

pub among-cases : {A : Type 0} (x : A) (l : List A) (y : A) → Among (x ∷ l) y → (y ≡ x) ⊎ Among l y
among-cases x l y h = cases_at x l y h.0 h.1

-- ---- maps

pub map-among : {A B : Type 0} (f : A → B) (l : List A) (x : A) → Among l x → Among (map f l) (f x)
map-among f [] x h = absurd (among-none x h)
map-among f (y ∷ l) x h = elim (among-cases y l x h) [
  | inl e ↦ (0, ap (λ a. Some (f a)) (sym e))
  | inr there ↦ among-rest (f y) (f x) (map f l) (map-among f l x there)
]

-- what stands in the image of a list is the image of what stands in it
pub record Source {A B : Type 0} (f : A → B) (l : List A) (y : B) : Type 0 where
  pub of : A
  pub there : Among l of
  pub is : y ≡ f of

pub among-map : {A B : Type 0} (f : A → B) (l : List A) (y : B) → Among (map f l) y → Source f l y
among-map f [] y h = absurd (among-none y h)
among-map f (x ∷ l) y h = elim (among-cases (f x) (map f l) y h) [
  | inl e ↦ record { of = x; there = among-first x l; is = e }
  | inr below ↦ let source = among-map f l y below in record { of = source.of; there = among-rest x source.of l source.there; is = source.is }
]

pub map-back : {A B : Type 0} (f : A → B) (g : B → A) (l : List A) → ((x : A) → g (f x) ≡ x) → map g (map f l) ≡ l
map-back f g [] back = refl
map-back f g (x ∷ l) back = rw (back x) (ap (λ m. x ∷ m) (map-back f g l back))

-- ---- joined lists

pub join-among : {A : Type 0} (l m : List A) (x : A) → Among l x ⊎ Among m x → Among (l ++ m) x
join-among [] m x (inl h) = absurd (among-none x h)
join-among [] m x (inr h) = h
join-among (y ∷ l) m x (inl h) = elim (among-cases y l x h) [
  | inl e ↦ (0, ap Some (sym e))
  | inr there ↦ among-rest y x (l ++ m) (join-among l m x (inl there))
]
join-among (y ∷ l) m x (inr h) = among-rest y x (l ++ m) (join-among l m x (inr h))

pub among-join : {A : Type 0} (l m : List A) (x : A) → Among (l ++ m) x → Among l x ⊎ Among m x
among-join [] m x h = inr h
among-join (y ∷ l) m x h = elim (among-cases y (l ++ m) x h) [
  | inl e ↦ inl (0, ap Some (sym e))
  | inr there ↦ elim (among-join l m x there) [ inl in_l ↦ inl (among-rest y x l in_l) | inr in_m ↦ inr in_m ]
]

-- ---- filters

pub filter-all : {A : Type 0} (p : A → Bool) (l : List A) → ((x : A) → Among l x → p x ≡ true) → filter p l ≡ l
filter-all p [] all = refl
filter-all p (x ∷ l) all =
    let passes : p x ≡ true = all x (among-first x l) in
    rw passes (ap (λ m. x ∷ m) (filter-all p l (λ y h. all y (among-rest x y l h))))

pub filter-none : {A : Type 0} (p : A → Bool) (l : List A) → ((x : A) → Among l x → p x ≡ false) → filter p l ≡ []
filter-none p [] none = refl
filter-none p (x ∷ l) none =
    let fails : p x ≡ false = none x (among-first x l) in
    rw fails (filter-none p l (λ y h. none y (among-rest x y l h)))

pub among-filter : {A : Type 0} (p : A → Bool) (l : List A) (y : A) → Among (filter p l) y → Among l y × (p y ≡ true)
among-filter p [] y h = absurd (among-none y h)
among-filter p (x ∷ l) y h = by_test (p x) (among-filter p l y) refl h
  where
    by_test : (b : Bool) → (Among (filter p l) y → Among l y × (p y ≡ true)) → p x ≡ b
        → Among (cond b (x ∷ filter p l) (filter p l)) y → Among (x ∷ l) y × (p y ≡ true)
    by_test true below is k = elim (among-cases x (filter p l) y k) [
      | inl e ↦ ((0, ap Some (sym e)), ap p e ∙ is)
      | inr there ↦ let both = below there in (among-rest x y l both.0, both.1)
    ]
    by_test false below is k = let both = below k in (among-rest x y l both.0, both.1)

filter_among-by : {A : Type 0} (p : A → Bool) (x y : A) (l m : List A) (b : Bool) → p x ≡ b → p y ≡ true → (Among l y → Among m y)
    → Among (x ∷ l) y → Among (cond b (x ∷ m) m) y
filter_among-by p x y l m true is passes below h = elim (among-cases x l y h) [
  | inl e ↦ (0, ap Some (sym e))
  | inr there ↦ among-rest x y m (below there)
]
filter_among-by p x y l m false is passes below h = elim (among-cases x l y h) [
  | inl e ↦ let same : p x ≡ true = ap p (sym e) ∙ passes in absurd (cc)
  | inr there ↦ below there
]

pub filter-among : {A : Type 0} (p : A → Bool) (l : List A) (y : A) → Among l y → p y ≡ true → Among (filter p l) y
filter-among p [] y h passes = h
filter-among p (x ∷ l) y h passes = filter_among-by p x y l (filter p l) (p x) refl passes (λ there. filter-among p l y there passes) h

pub filter-alike : {A : Type 0} (p t : A → Bool) (l : List A) → ((x : A) → Among l x → p x ≡ t x) → filter p l ≡ filter t l
filter-alike p t [] alike = refl
filter-alike p t (x ∷ l) alike =
    ap (λ b. cond b (x ∷ filter p l) (filter p l)) (alike x (among-first x l))
    ∙ ap (λ m. cond (t x) (x ∷ m) m) (filter-alike p t l (λ y h. alike y (among-rest x y l h)))

pub filter-passes : {A : Type 0} (p : A → Bool) (x : A) (l : List A) → p x ≡ true → filter p (x ∷ l) ≡ x ∷ filter p l
filter-passes p x l h = rw h refl

pub filter-fails : {A : Type 0} (p : A → Bool) (x : A) (l : List A) → p x ≡ false → filter p (x ∷ l) ≡ filter p l
filter-fails p x l h = rw h refl

both_filters : {A : Type 0} (p t : A → Bool) (x : A) (l : List A) (b c : Bool) → p x ≡ b → t x ≡ c → filter p (filter t l) ≡ filter t (filter p l)
    → filter p (cond c (x ∷ filter t l) (filter t l)) ≡ filter t (cond b (x ∷ filter p l) (filter p l))
both_filters p t x l true true f g same = filter-passes p x (filter t l) f ∙ ap (λ m. x ∷ m) same ∙ sym (filter-passes t x (filter p l) g)
both_filters p t x l true false f g same = same ∙ sym (filter-fails t x (filter p l) g)
both_filters p t x l false true f g same = filter-fails p x (filter t l) f ∙ same
both_filters p t x l false false f g same = same

pub filter-swap : {A : Type 0} (p t : A → Bool) (l : List A) → filter p (filter t l) ≡ filter t (filter p l)
filter-swap p t [] = refl
filter-swap p t (x ∷ l) = both_filters p t x l (p x) (t x) refl refl (filter-swap p t l)

-- a test that only passes what another one passes needs no other one before it
pub filter-within : {A : Type 0} (p t : A → Bool) (l : List A) → ((x : A) → Among l x → t x ≡ true → p x ≡ true) → filter t (filter p l) ≡ filter t l
filter-within p t [] within = refl
filter-within p t (x ∷ l) within = by_tests (p x) (t x) (filter-within p t l (λ y h. within y (among-rest x y l h))) refl refl
  where
    by_tests : (b k : Bool) → filter t (filter p l) ≡ filter t l → p x ≡ b → t x ≡ k
        → filter t (cond b (x ∷ filter p l) (filter p l)) ≡ cond k (x ∷ filter t l) (filter t l)
    by_tests true true below is keeps = rw keeps (ap (λ m. x ∷ m) below)
    by_tests true false below is keeps = rw keeps below
    by_tests false true below is keeps = let passes = within x (among-first x l) keeps in absurd (cc)
    by_tests false false below is keeps = below

-- ---- the numbers below one

pub below-among : (n k : ℕ) → k < n → Among (numbers_below n) k
unfolding numbers_below
below-among zero k h = absurd (omega arith)
below-among (suc n) k h = join-among (numbers_below n) (n ∷ []) k (elim (cases_lt k n) [
  | inl less ↦ inl (below-among n k less)
  | inr more ↦ let e : n ≡ k = omega arith in inr (0, ap Some e)
])

pub among-below : (n k : ℕ) → Among (numbers_below n) k → k < n
unfolding numbers_below
among-below zero k h = absurd (among-none k h)
among-below (suc n) k h = elim (among-join (numbers_below n) (n ∷ []) k h) [
  | inl in_l ↦ let less = among-below n k in_l in omega arith
  | inr at ↦ elim (among-cases n [] k at) [
    | inl e ↦ omega arith
    | inr none ↦ absurd (among-none k none)
  ]
]
