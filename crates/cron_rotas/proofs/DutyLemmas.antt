-- Who can be on duty, and that everybody's seconds add up.
use Rattle.std.proofs.Common.{◌≡◌, ℕ, zero, suc, ◌+◌, ◌%◌, ◌<◌, ◌≤◌, ℤ, pos, ◌+ℤ◌, ◌-ℤ◌, ◌≤ℤ◌, ◌<ℤ◌, Bool, true, false, cond, List, [], ◌∷◌, Option, Some, None, ◌⊎◌, inl, inr, refl, sym, ap, ◌∙◌, subst, arith}
use Rattle.std.specs.Prelude.{find, int_lt, ◌&&◌, nat_eq, nat_lt, reverse, slice_get, unwrap_or}
use Rattle.std.specs.Int.{int_max}
use Rattle.std.specs.List.{list_all, range_with_len, sum_by}
use Rattle.std.specs.Option.{option_map}
use Rattle.std.proofs.lemmas.Bool.{cases_lt, ltb-true}
use Rattle.std.proofs.lemmas.Int.{ints}
use Rattle.std.proofs.lemmas.List.Sums.{sum_by-cons}
use native.Mathlib.Nat.{mod-lt}
use Rattle.cron_time.proofs.ListLemmas.{Among, among-cases, among-none, among-rest}
use Rattle.cron_stretches.specs.declared.stretch.Stretch.{Stretch}
use Rattle.cron_stretches.specs.Laws.{length_if}
use Rattle.cron_stretches.specs.Stretches.{count_between, count_seconds, seconds_from, stretches_between}
use Rattle.cron_stretches.proofs.StretchLemmas.{none_left, run, seconds_from-is, seconds_from-none, sum-is}
use Rattle.cron_rotas.specs.declared.swap.Swap.{Swap}
use Rattle.cron_rotas.specs.Rotas.{Duty, holds_at, is_rota, is_swap_of, person_at, seconds_of_duty, swapped, turn_at}
use Rattle.cron_rotas.specs.Steps.{IsShift}
use Rattle.cron_rotas.proofs.StepLemmas.{nat_eq-is}
use Rattle.cron_rotas.proofs.SwapLemmas.{among-reverse}

-- ---- who can be on duty

found-among : {A : Type 0} (p : A → Bool) (l : List A) (x : A) → find p l ≡ Some x → Among l x
found-among p [] x e = absurd (cc)
found-among p (y ∷ l) x e = by_test (p y) (found-among p l x) e
  where
    by_test : (b : Bool) → (find p l ≡ Some x → Among l x) → cond b (Some y) (find p l) ≡ Some x → Among (y ∷ l) x
    by_test true below e = (0, e)
    by_test false below e = among-rest y x l (below e)

and_both : (a b : Bool) → (a && b) ≡ true → (a ≡ true) × (b ≡ true)
and_both true b h = (refl, h)
and_both false b h = absurd (cc)

all-each : {A : Type 0} (p : A → Bool) (l : List A) (x : A) → list_all p l ≡ true → Among l x → p x ≡ true
all-each p [] x all h = absurd (among-none x h)
all-each p (y ∷ l) x all h =
    let both = and_both (p y) (list_all p l) all in
    elim (among-cases y l x h) [
      | inl same ↦ ap p same ∙ both.0
      | inr there ↦ all-each p l x both.1 there
    ]

pub some_people : (n : ℕ) (swaps : List Swap) → is_rota n swaps ≡ true → 0 < n
some_people n swaps is = ltb-true 0 n (and_both (nat_lt 0 n) (list_all (is_swap_of n) swaps) is).0

pub person-below : (d : Duty) (t : ℤ) → is_rota d.people d.swaps ≡ true → person_at d t < d.people
person-below d t is = by_swap (find (holds_at t) (reverse d.swaps)) refl
  where
    by_swap : (o : Option Swap) → find (holds_at t) (reverse d.swaps) ≡ o → unwrap_or (option_map (λ s. s.person) o) (turn_at d t) < d.people
    by_swap None e = mod-lt _ (some_people d.people d.swaps is)
    by_swap (Some s) e =
        let there = among-reverse d.swaps s (found-among (holds_at t) (reverse d.swaps) s e) in
        let each = (and_both (nat_lt 0 d.people) (list_all (is_swap_of d.people) d.swaps) is).1 in
        let own = all-each (is_swap_of d.people) d.swaps s each there in
        ltb-true s.person d.people (and_both (int_lt s.from s.until) (nat_lt s.person d.people) own).1

-- ---- everybody's seconds

sum-both : (f g : ℕ → ℕ) (l : List ℕ) → sum_by (λ p. f p + g p) l ≡ sum_by f l + sum_by g l
sum-both f g [] = refl
sum-both f g (p ∷ l) =
    let rest = sum-both f g l in
    let both = sum_by-cons (λ p. f p + g p) p l in
    let one = sum_by-cons f p l in
    let other = sum_by-cons g p l in
    omega arith

sum-nothing : (l : List ℕ) → sum_by (λ p. 0) l ≡ 0
sum-nothing [] = refl
sum-nothing (p ∷ l) = let rest = sum-nothing l in let split = sum_by-cons (λ (q : ℕ). 0) p l in omega arith

-- of the people one is the person
none_of : (v a n : ℕ) → v < a → sum_by (λ p. cond (nat_eq v p) 1 0) (range_with_len a n) ≡ 0
none_of v a zero less = refl
none_of v a (suc n) less =
    let rest = none_of v (a + 1) n (omega arith) in
    let split = sum_by-cons (λ p. cond {A = ℕ} (nat_eq v p) 1 0) a (range_with_len (a + 1) n) in
    let own : cond {A = ℕ} (nat_eq v a) 1 0 ≡ 0 = grind arith in
    omega arith

one_of : (v a n : ℕ) → a ≤ v → v < a + n → sum_by (λ p. cond (nat_eq v p) 1 0) (range_with_len a n) ≡ 1
one_of v a zero low high = absurd (omega arith)
one_of v a (suc n) low high = elim (cases_lt a v) [
  | inl later ↦
      let rest = one_of v (a + 1) n (omega arith) (omega arith) in
      let split = sum_by-cons (λ p. cond {A = ℕ} (nat_eq v p) 1 0) a (range_with_len (a + 1) n) in
      let own : cond {A = ℕ} (nat_eq v a) 1 0 ≡ 0 = grind arith in
      omega arith
  | inr here ↦
      let rest = none_of v (a + 1) n (omega arith) in
      let split = sum_by-cons (λ p. cond {A = ℕ} (nat_eq v p) 1 0) a (range_with_len (a + 1) n) in
      let own : cond {A = ℕ} (nat_eq v a) 1 0 ≡ 1 = grind arith in
      omega arith
]

seconds-add_up : (value : ℤ → ℕ) (n : ℕ) → ((t : ℤ) → value t < n) → (k : ℕ) (m : ℤ)
    → sum_by (λ p. count_seconds (λ t. nat_eq (value t) p) m k) (range_with_len 0 n) ≡ k
unfolding count_seconds
seconds-add_up value n below zero m = sum-nothing (range_with_len 0 n)
seconds-add_up value n below (suc k) m =
    let rest = seconds-add_up value n below k (m +ℤ pos 1) in
    let both = sum-both (λ p. cond (nat_eq (value m) p) 1 0) (λ p. count_seconds (λ t. nat_eq (value t) p) (m +ℤ pos 1) k) (range_with_len 0 n) in
    let one = one_of (value m) 0 n (omega arith) (let less = below m in omega arith) in
    omega arith

pub duty-adds_up : (d : Duty) (from to : ℤ) → is_rota d.people d.swaps ≡ true
    → sum_by (seconds_of_duty d from to) (range_with_len 0 d.people) ≡ seconds_from (to -ℤ int_max from d.start)
duty-adds_up d from to is = seconds-add_up (person_at d) d.people (λ t. person-below d t is) (seconds_from (to -ℤ int_max from d.start)) (int_max from d.start)

-- ---- the shifts and the seconds that are left

module _ (d : Duty) where
  pub shift-first : (person : ℕ) (place to end : ℤ) → IsShift d person place to end
      → stretches_between nat_eq (person_at d) place to ≡ record { first = place; end = end; value = person } ∷ stretches_between nat_eq (person_at d) end to
  shift-first person place to end shift = run nat_eq nat_eq-is (person_at d) place end to person shift.later shift.within shift.alike shift.ends

  pub no_shifts : (place to : ℤ) → to ≤ℤ place → stretches_between nat_eq (person_at d) place to ≡ []
  no_shifts place to le = none_left nat_eq nat_eq-is (person_at d) place to le

  -- how many seconds of a stretch are those of a person
  abbrev pub duty_left : ℤ → ℤ → ℕ → ℕ
  duty_left place to p = count_between (λ t. nat_eq (person_at d t) p) place to

  pub duty-first : (person p : ℕ) (place to end : ℤ) → IsShift d person place to end
      → duty_left place to p ≡ cond (nat_eq person p) (seconds_from (end -ℤ place)) 0 + duty_left end to p
  duty-first person p place to end shift =
      let whole = sum-is nat_eq nat_eq-is (person_at d) (λ v. nat_eq v p) place to in
      let rest = sum-is nat_eq nat_eq-is (person_at d) (λ v. nat_eq v p) end to in
      let first = ap (sum_by (length_if (λ v. nat_eq v p))) (shift-first person place to end shift) in
      let split = sum_by-cons (length_if (λ v. nat_eq v p)) (record { first = place; end = end; value = person }) (stretches_between nat_eq (person_at d) end to) in
      sym whole ∙ first ∙ split ∙ ap (λ (m : ℕ). cond (nat_eq person p) (seconds_from (end -ℤ place)) 0 + m) rest

  pub duty-none : (place to : ℤ) (p : ℕ) → to ≤ℤ place → duty_left place to p ≡ 0
  unfolding count_seconds
  duty-none place to p le = ap (count_seconds (λ t. nat_eq (person_at d t) p) place) (seconds_from-none (to -ℤ place) (omega (arith, ints)))
