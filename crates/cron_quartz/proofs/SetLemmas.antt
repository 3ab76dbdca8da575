-- The set of a field, as its items are read.
use Rattle.std.proofs.Common.{◌≡◌, ◌<◌, ◌+◌, ◌++◌, ◌&&◌, ◌||◌, ℕ, Bool, true, false, List, [], ◌∷◌, refl, sym, ap, ◌∙◌, arith, inl, inr, nat_eq, nat_lt}
use Rattle.std.proofs.Math.Bool.{or-false}
use Rattle.std.proofs.lemmas.Bool.Decides.{nat_tests}
use Rattle.std.proofs.lemmas.Bool.{cases_eq, eq-eqb, ne_eqb, lt-ltb, le-ltb}
use Rattle.std.proofs.lemmas.List.Folds.{list_any-append}
use Rattle.std.specs.Prelude.{filter}
use Rattle.cron_units.specs.Units.{TimeUnit, IsSet, contains, set_of, whole}
use Rattle.cron_units.specs.Steps.{Progression}
use Rattle.cron_units.proofs.SetLemmas.{filter_none, set_or, set_same}
use Rattle.cron_quartz.specs.Items.{lies_in, lies_in_one}

-- ---- items, one after another

pub none_read : (u : TimeUnit) → [] ≡ set_of u (lies_in_one u [])
none_read u = sym (filter_none (lies_in_one u []) (whole u) (λ x. refl))

pub more_read : (u : TimeUnit) (done : List Progression) (item : Progression) (numbers : List ℕ) → numbers ≡ set_of u (lies_in_one u done)
    → set_of u (λ x. contains numbers x || lies_in u item x) ≡ set_of u (lies_in_one u (done ++ item ∷ []))
more_read u done item numbers is =
    set_or u (lies_in_one u done) (lies_in u item) numbers is
    ∙ set_same u (λ x. lies_in_one u done x || lies_in u item x) (lies_in_one u (done ++ item ∷ [])) (λ x low high.
    ap (λ b. lies_in_one u done x || b) (sym (or-false (lies_in u item x))) ∙ sym (list_any-append (λ i. lies_in u i x) done (item ∷ [])))

-- ---- the numbers that pass a test, from the least on

-- those that were there, and those below a number that pass
abbrev pub below : (ℕ → Bool) → List ℕ → ℕ → ℕ → Bool
below test old n x = contains old x || (nat_lt x n && test x)

taken : (c a l : Bool) → l ≡ true → ((c || (a && l)) || true) ≡ (c || (true && l))
taken true a l is = refl
taken false true true is = refl
taken false true false is = sym is
taken false false true is = refl
taken false false false is = sym is

left_out : (c a b l : Bool) → l ≡ false → (c || (a && l)) ≡ (c || (b && l))
left_out true a b l is = refl
left_out false true true l is = refl
left_out false false false l is = refl
left_out false true false l is = is
left_out false false true l is = sym is

next : (x n : ℕ) → (x ≡ n → ⊥) → nat_lt x n ≡ nat_lt x (n + 1)
next x n apart = grind (arith, nat_tests, apart)

inserted : (test : ℕ → Bool) (old : List ℕ) (n x : ℕ) → test n ≡ true → (below test old n x || nat_eq x n) ≡ below test old (n + 1) x
inserted test old n x lies = elim (cases_eq x n) [
  | inl e ↦
      rw (eq-eqb x n e, lt-ltb x (n + 1) (omega arith))
      (taken (contains old x) (nat_lt x n) (test x) (ap test e ∙ lies))
  | inr apart ↦
      rw (ne_eqb x n apart) (or-false (below test old n x))
      ∙ ap (λ b. contains old x || (b && test x)) (next x n apart)
]

passed : (test : ℕ → Bool) (old : List ℕ) (n x : ℕ) → test n ≡ false → below test old n x ≡ below test old (n + 1) x
passed test old n x lies = elim (cases_eq x n) [
  | inl e ↦ left_out (contains old x) (nat_lt x n) (nat_lt x (n + 1)) (test x) (ap test e ∙ lies)
  | inr apart ↦ ap (λ b. contains old x || (b && test x)) (next x n apart)
]

pub none_below : (u : TimeUnit) (test : ℕ → Bool) (old : List ℕ) → IsSet u old → old ≡ set_of u (below test old u.least)
none_below u test old is =
    is ∙ set_same u (contains old) (below test old u.least) (λ x low high. rw (le-ltb x u.least low) (sym (or-false (contains old x))))

pub one_inserted : (u : TimeUnit) (test : ℕ → Bool) (old set : List ℕ) (n : ℕ) → set ≡ set_of u (below test old n) → test n ≡ true
    → set_of u (λ x. contains set x || nat_eq x n) ≡ set_of u (below test old (n + 1))
one_inserted u test old set n is lies =
    set_or u (below test old n) (λ x. nat_eq x n) set is
    ∙ set_same u (λ x. below test old n x || nat_eq x n) (below test old (n + 1)) (λ x low high. inserted test old n x lies)

pub one_passed : (u : TimeUnit) (test : ℕ → Bool) (old set : List ℕ) (n : ℕ) → set ≡ set_of u (below test old n) → test n ≡ false
    → set ≡ set_of u (below test old (n + 1))
one_passed u test old set n is lies =
    is ∙ set_same u (below test old n) (below test old (n + 1)) (λ x low high. passed test old n x lies)

pub all_below : (u : TimeUnit) (test : ℕ → Bool) (old set : List ℕ) (n : ℕ) → set ≡ set_of u (below test old n) → u.greatest < n
    → set ≡ set_of u (λ x. contains old x || test x)
all_below u test old set n is past =
    is ∙ set_same u (below test old n) (λ x. contains old x || test x) (λ x low high. rw (lt-ltb x n (omega arith)) refl)

-- what is kept of a set
pub kept_of : (u : TimeUnit) (test : ℕ → Bool) (xs : List ℕ) → IsSet u xs → set_of u (λ x. contains xs x && test x) ≡ filter test xs
kept_of u test xs is = twice (contains xs) (whole u) ∙ ap (filter test) (sym is)
  where
    twice : (p : ℕ → Bool) (ys : List ℕ) → filter (λ x. p x && test x) ys ≡ filter test (filter p ys)
    twice p [] = refl
    twice p (y ∷ ys) = by_test (p y) (test y) refl refl (twice p ys)
      where
        by_test : (a b : Bool) → p y ≡ a → test y ≡ b → filter (λ x. p x && test x) ys ≡ filter test (filter p ys)
            → filter (λ x. p x && test x) (y ∷ ys) ≡ filter test (filter p (y ∷ ys))
        by_test true true e f rest = rw (e, f) (ap (λ zs. y ∷ zs) rest)
        by_test true false e f rest = rw (e, f) rest
        by_test false b e f rest = rw e rest
