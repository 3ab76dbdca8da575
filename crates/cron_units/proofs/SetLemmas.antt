-- Sets of ordinals, as ascending lists and as tests.
use Rattle.std.proofs.Common.{◌≡◌, ℕ, ◌+◌, ◌-◌, ◌<◌, ◌≤◌, Bool, true, false, ◌&&◌, ◌||◌, cond, List, [], ◌∷◌, length, refl, sym, ap, subst, ◌∙◌, arith, zero, suc, inl, inr}
use Rattle.std.specs.Prelude.{filter, nat_eq}
use Rattle.std.specs.List.{range_with_len}
use Rattle.std.proofs.Math.Bool.{and-true, or-false}
use Rattle.std.proofs.lemmas.Bool.{cases_eq, eq-eqb, ne_eqb, and_right}
use Rattle.std.proofs.lemmas.List.FromFn.{length-range_with_len}
use Rattle.cron_units.specs.Units.{TimeUnit, without_last_day, whole, contains, set_of, IsSet}

-- ---- tests of numbers

pub same_eq : (a : ℕ) → nat_eq a a ≡ true
same_eq a = eq-eqb a a refl

-- ---- the ordinals of a unit

-- A word for the last day of the month is no ordinal.
pub whole_without : (u : TimeUnit) → whole (without_last_day u) ≡ whole u
unfolding whole
whole_without u = refl

pub set_without : (u : TimeUnit) (p : ℕ → Bool) → set_of (without_last_day u) p ≡ set_of u p
set_without u p = ap (filter p) (whole_without u)

-- ---- tests that agree

pub filter_same_in : (p r : ℕ → Bool) (a n : ℕ) → ((x : ℕ) → a ≤ x → x < a + n → p x ≡ r x) → filter p (range_with_len a n) ≡ filter r (range_with_len a n)
filter_same_in p r a zero h = refl
filter_same_in p r a (suc n) h =
    let here : p a ≡ r a = h a (omega arith) (omega arith) in
    let rest : filter p (range_with_len (a + 1) n) ≡ filter r (range_with_len (a + 1) n) = filter_same_in p r (a + 1) n
    (λ x l g. h x (omega arith) (omega arith)) in
    rw (here, rest) refl

-- Tests that agree on the ordinals of a unit give one set.
pub set_same : (u : TimeUnit) (p r : ℕ → Bool) → ((x : ℕ) → u.least ≤ x → x ≤ u.greatest → p x ≡ r x) → set_of u p ≡ set_of u r
unfolding whole
set_same u p r h = filter_same_in p r u.least (u.greatest + 1 - u.least) (λ x l g. h x l (omega arith))

-- ---- members

contains_cond : (b : Bool) (a x : ℕ) (xs : List ℕ) → contains (cond b (a ∷ xs) xs) x ≡ ((b && nat_eq x a) || contains xs x)
contains_cond true a x xs = refl
contains_cond false a x xs = refl

contains_below : (p : ℕ → Bool) (a n x : ℕ) → x < a → contains (filter p (range_with_len a n)) x ≡ false
contains_below p a zero x l = refl
contains_below p a (suc n) x l =
    contains_cond (p a) a x (filter p (range_with_len (a + 1) n))
    ∙ rw (contains_below p (a + 1) n x (omega arith), ne_eqb x a (λ e. omega arith), and_right (p a) false refl) refl

contains_in : (p : ℕ → Bool) (a n x : ℕ) → a ≤ x → x < a + n → contains (filter p (range_with_len a n)) x ≡ p x
contains_in p a zero x l g = absurd (omega arith)
contains_in p a (suc n) x l g =
    contains_cond (p a) a x (filter p (range_with_len (a + 1) n)) ∙ elim (cases_eq x a) [
      | inl e ↦ rw (e, same_eq a, contains_below p (a + 1) n a (omega arith), and-true (p a)) (or-false (p a))
      | inr d ↦ rw (ne_eqb x a d, and_right (p a) false refl) (contains_in p (a + 1) n x (omega (arith, d)) (omega arith))
    ]

-- An ordinal of the unit is a member where it passes the test.
pub contains_set : (u : TimeUnit) (p : ℕ → Bool) (x : ℕ) → u.least ≤ x → x ≤ u.greatest → contains (set_of u p) x ≡ p x
unfolding whole
contains_set u p x l g = contains_in p u.least (u.greatest + 1 - u.least) x l (omega arith)

-- What a test gives is a set.
pub set_is_set : (u : TimeUnit) (p : ℕ → Bool) → IsSet u (set_of u p)
set_is_set u p = set_same u p (contains (set_of u p)) (λ x l g. sym (contains_set u p x l g))

contains_past : (p : ℕ → Bool) (a n x : ℕ) → a + n ≤ x → contains (filter p (range_with_len a n)) x ≡ false
contains_past p a zero x l = refl
contains_past p a (suc n) x l =
    contains_cond (p a) a x (filter p (range_with_len (a + 1) n))
    ∙ rw (contains_past p (a + 1) n x (omega arith), ne_eqb x a (λ e. omega arith), and_right (p a) false refl) refl

-- No other number is a member.
pub contains_before : (u : TimeUnit) (p : ℕ → Bool) (x : ℕ) → x < u.least → contains (set_of u p) x ≡ false
unfolding whole
contains_before u p x l = contains_below p u.least (u.greatest + 1 - u.least) x l

pub contains_after : (u : TimeUnit) (p : ℕ → Bool) (x : ℕ) → u.least ≤ u.greatest → u.greatest < x → contains (set_of u p) x ≡ false
unfolding whole
contains_after u p x ordered l = contains_past p u.least (u.greatest + 1 - u.least) x (omega arith)

pub filter_none : (p : ℕ → Bool) (xs : List ℕ) → ((x : ℕ) → p x ≡ false) → filter p xs ≡ []
filter_none p [] h = refl
filter_none p (x ∷ xs) h = rw (h x) (filter_none p xs h)

pub is_set_from : (u : TimeUnit) (p : ℕ → Bool) (xs : List ℕ) → xs ≡ set_of u p → IsSet u xs
is_set_from u p xs h = subst (IsSet u) (sym h) (set_is_set u p)

-- A set of what passes one test, with what passes another.
pub set_or : (u : TimeUnit) (p r : ℕ → Bool) (xs : List ℕ) → xs ≡ set_of u p → set_of u (λ x. contains xs x || r x) ≡ set_of u (λ x. p x || r x)
set_or u p r xs h =
    set_same u (λ x. contains xs x || r x) (λ x. p x || r x)
    (λ x l g. ap (λ (b : Bool). b || r x) (ap (λ (ys : List ℕ). contains ys x) h ∙ contains_set u p x l g))

pub empty_is_set : (u : TimeUnit) → IsSet u []
empty_is_set u = sym (filter_none (contains []) (whole u) (λ x. refl))

filter_all : (p : ℕ → Bool) (xs : List ℕ) → ((x : ℕ) → p x ≡ true) → filter p xs ≡ xs
filter_all p [] h = refl
filter_all p (x ∷ xs) h = rw (h x) (ap (λ (ys : List ℕ). x ∷ ys) (filter_all p xs h))

pub whole_is_all : (u : TimeUnit) → set_of u (λ x. true) ≡ whole u
whole_is_all u = filter_all (λ x. true) (whole u) (λ x. refl)

-- ---- how many members

pub length_whole : (u : TimeUnit) → length (whole u) ≡ u.greatest + 1 - u.least
unfolding whole
length_whole u = length-range_with_len u.least (u.greatest + 1 - u.least)

length_cond : (b : Bool) (x : ℕ) (xs ys : List ℕ) → length ys ≤ length xs → length (cond b (x ∷ ys) ys) ≤ length xs + 1
length_cond true x xs ys l = omega arith
length_cond false x xs ys l = omega arith

pub length_filter : (p : ℕ → Bool) (xs : List ℕ) → length (filter p xs) ≤ length xs
length_filter p [] = omega arith
length_filter p (x ∷ xs) = omega (arith, length_cond (p x) x xs (filter p xs) (length_filter p xs))

full_cond : (b : Bool) (x : ℕ) (xs ys : List ℕ) → length ys ≤ length xs → length xs + 1 ≤ length (cond b (x ∷ ys) ys) → (length xs ≤ length ys → ys ≡ xs)
    → cond b (x ∷ ys) ys ≡ x ∷ xs
full_cond true x xs ys l g h = ap (λ (zs : List ℕ). x ∷ zs) (h (omega arith))
full_cond false x xs ys l g h = absurd (omega arith)

full : (p : ℕ → Bool) (xs : List ℕ) → length xs ≤ length (filter p xs) → filter p xs ≡ xs
full p [] g = refl
full p (x ∷ xs) g = full_cond (p x) x xs (filter p xs) (length_filter p xs) (omega arith) (full p xs)

pub length_set : (u : TimeUnit) (xs : List ℕ) → IsSet u xs → length xs ≤ u.greatest + 1 - u.least
length_set u xs h =
    omega (arith, ap (λ (ys : List ℕ). length ys) h, length_filter (contains xs) (whole u), length_whole u)

-- A set with as many members as its unit has ordinals is whole.
pub full_set : (u : TimeUnit) (xs : List ℕ) → IsSet u xs → length xs ≡ u.greatest + 1 - u.least → xs ≡ whole u
full_set u xs h e =
    h ∙ full (contains xs) (whole u) (omega (arith, ap (λ (ys : List ℕ). length ys) h, length_whole u))
