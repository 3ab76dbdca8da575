-- Steps, added to a set.
use Rattle.std.proofs.Common.{◌≡◌, ℕ, ◌+◌, ◌-◌, ◌%◌, ◌<◌, ◌≤◌, Bool, true, false, ◌&&◌, ◌||◌, not, List, [], ◌∷◌, refl, sym, ap, ◌∙◌, arith}
use Rattle.std.specs.Prelude.{nat_eq, nat_lt, nat_le, filter}
use Rattle.std.specs.List.{range_with_len}
use Rattle.std.proofs.Math.Bool.{and-true, or-false}
use Rattle.std.proofs.lemmas.Bool.{lt-ltb, le-leb, ne_eqb, eq-eqb}
use Rattle.std.proofs.lemmas.Bool.Decides.{nat_tests}
use Rattle.cron_units.specs.Steps.{Progression, in_steps}
use Rattle.cron_units.specs.Units.{TimeUnit, whole, contains, set_of, IsSet}
use Rattle.cron_units.specs.Places.{placed}
use Rattle.cron_units.proofs.PlaceLemmas.{placed_or}
use Rattle.cron_units.proofs.SetLemmas.{same_eq, set_same, whole_is_all, filter_none}
use Rattle.cron_units.proofs.Laid.{empty_test}
use Rattle.cron_units.proofs.Remaining.{filter_first}

pub is_step : (s : Progression) (at : ℕ) → s.first ≤ at → at ≤ s.last → (at - s.first) % s.every ≡ 0 → in_steps s at ≡ true
is_step s at l g e = rw (le-leb s.first at l, le-leb at s.last g, e) refl

turned : (a b c : Bool) → (b && (true && (a && c))) ≡ ((a && b) && c)
turned true true c = refl
turned true false c = refl
turned false true c = refl
turned false false c = refl

-- the places of steps are those of their ordinals
step_test : (s : Progression) (least size x : ℕ) → least ≤ s.first → s.first ≤ s.last → least ≤ x → x < least + size
    → (nat_lt (x - least) (s.last - least + 1) && (nat_lt (x - least) size
    && (nat_le (s.first - least) (x - least) && nat_eq ((x - least - (s.first - least)) % s.every) 0))) ≡ in_steps s x
step_test s least size x low order l g =
    let apart : x - least - (s.first - least) ≡ x - s.first = omega arith in
    let before : nat_lt (x - least) (s.last - least + 1) ≡ nat_le x s.last = grind (arith, nat_tests) in
    let behind : nat_le (s.first - least) (x - least) ≡ nat_le s.first x = grind (arith, nat_tests) in
    rw (apart, before, behind, lt-ltb (x - least) size (omega arith)) (turned (nat_le s.first x) (nat_le x s.last) (nat_eq ((x - s.first) % s.every) 0))

-- Steps are added at their places.
pub steps_more : (u : TimeUnit) (taken nth steps more : ℕ → Bool) (xs : List ℕ) (s : Progression) (least size : ℕ) → placed u taken ≡ xs → least ≡ u.least
    → u.least ≤ s.first → s.first ≤ s.last → u.greatest < u.least + size
    → ((k : ℕ) → nth k ≡ (nat_lt k size && (nat_le (s.first - least) k && nat_eq ((k - (s.first - least)) % s.every) 0)))
    → ((k : ℕ) → steps k ≡ (nat_lt k (s.last - least + 1) && nth k)) → ((k : ℕ) → more k ≡ (taken k || steps k))
    → placed u more ≡ set_of u (λ x. contains xs x || in_steps s x)
steps_more u taken nth steps more xs s least size is e low order fits bits cut joined =
    placed_or u taken more (in_steps s) (λ x l g.
    joined (x - u.least) ∙ ap (λ (b : Bool). taken (x - u.least) || b)
    (cut (x - u.least) ∙ (ap (λ (b : Bool). nat_lt (x - u.least) (s.last - least + 1) && b) (bits (x - u.least))
    ∙ (ap (λ (n : ℕ). nat_lt (x - u.least) (s.last - n + 1) && (nat_lt (x - u.least) size
    && (nat_le (s.first - n) (x - u.least) && nat_eq ((x - u.least - (s.first - n)) % s.every) 0))) e
    ∙ step_test s u.least size x low order l (omega arith)))))
    ∙ ap (λ (ys : List ℕ). set_of u (λ x. contains ys x || in_steps s x)) is

none_between : (s : Progression) (x : ℕ) → s.last < s.first → in_steps s x ≡ false
none_between s x l = ap (λ (b : Bool). b && nat_eq ((x - s.first) % s.every) 0) (empty_test s.first s.last x l)

-- Steps that end before they begin add nothing.
pub steps_empty : (u : TimeUnit) (xs : List ℕ) (s : Progression) → IsSet u xs → s.last < s.first → xs ≡ set_of u (λ x. contains xs x || in_steps s x)
steps_empty u xs s set l =
    set ∙ set_same u (contains xs) (λ x. contains xs x || in_steps s x)
    (λ x a b. sym (ap (λ (t : Bool). contains xs x || t) (none_between s x l) ∙ or-false (contains xs x)))

-- ---- all ordinals, and one

none_other : (b : Bool) → false ≡ (not b && b)
none_other true = refl
none_other false = refl

filter_only : (a n k : ℕ) → a ≤ k → k < a + n → filter (λ x. nat_eq x k) (range_with_len a n) ≡ k ∷ []
filter_only a n k l g = filter_first (λ x. nat_eq x k) (λ x. false) a n k l g (same_eq k) (λ x _ h. ne_eqb x k (λ e. omega arith))
    (λ x _. none_other (nat_eq x k))
    ∙ ap (λ (xs : List ℕ). k ∷ xs) (filter_none (λ x. false) (range_with_len a n) (λ x. refl))

pub all_range : (u : TimeUnit) (none xs : List ℕ) (least greatest : ℕ) → none ≡ [] → least ≡ u.least → greatest ≡ u.greatest
    → xs ≡ set_of u (λ x. contains none x || (nat_le least x && nat_le x greatest)) → xs ≡ whole u
all_range u none xs least greatest h i j e =
    e ∙ (set_same u (λ x. contains none x || (nat_le least x && nat_le x greatest)) (λ x. true)
    (λ x l g. ap (λ (ys : List ℕ). contains ys x || (nat_le least x && nat_le x greatest)) h
    ∙ rw (le-leb least x (omega arith), le-leb x greatest (omega arith)) refl) ∙ whole_is_all u)

-- A range is steps by one.
pub range_steps : (u : TimeUnit) (old xs : List ℕ) (first last every : ℕ) → every ≡ 1
    → xs ≡ set_of u (λ x. contains old x || (nat_le first x && nat_le x last))
    → xs ≡ set_of u (λ x. contains old x || in_steps (record { first = first; last = last; every = every }) x)
range_steps u old xs first last every h e =
    e ∙ set_same u (λ x. contains old x || (nat_le first x && nat_le x last))
    (λ x. contains old x || in_steps (record { first = first; last = last; every = every }) x)
    (λ x l g.
    let whole_number : (x - first) % every ≡ 0 = rw h (omega arith) in
    ap (λ (b : Bool). contains old x || b) (sym (ap (λ (b : Bool). (nat_le first x && nat_le x last) && b) (eq-eqb ((x - first) % every) 0 whole_number)
    ∙ and-true (nat_le first x && nat_le x last))))

pub only_one : (u : TimeUnit) (none xs : List ℕ) (k : ℕ) → none ≡ [] → u.least ≤ k → k ≤ u.greatest → xs ≡ set_of u (λ x. contains none x || nat_eq x k)
    → xs ≡ k ∷ []
unfolding whole
only_one u none xs k h low high e =
    e ∙ (ap (λ (ys : List ℕ). set_of u (λ x. contains ys x || nat_eq x k)) h ∙ filter_only u.least (u.greatest + 1 - u.least) k low (omega arith))
