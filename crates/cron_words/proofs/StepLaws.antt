-- The numbers of a progression are those at which its step comes round.
use Rattle.std.proofs.Common.{◌≡◌, ◌==◌, ◌<◌, ◌≤◌, ◌+◌, ◌-◌, ◌%◌, ◌&&◌, ◌||◌, nat_eq, nat_le, nat_lt, ℕ, Bool, true, false, List, [], ◌∷◌, inl, inr, refl, sym, ap, ◌∙◌, arith}
use Rattle.std.proofs.Math.Nat.{add-mod_right, mod-eq_of_lt}
use Rattle.std.proofs.lemmas.Bool.{cases_lt, eq-eqb, eqb-true, false≢true, ltb-true, ne_eqb}
use Rattle.std.proofs.lemmas.Bool.Decides.{nat_tests}
use Rattle.cron_text.proofs.TokenRuns.{and_parts}
use Rattle.cron_units.specs.Units.{contains}
use Rattle.cron_words.specs.Progressions.{StepsComeRound, goes_by, last_from}

-- what one step says
next_is : (k n m : ℕ) (ns : List ℕ) → goes_by k n (m ∷ ns) ≡ true → (n + k ≡ m) × (goes_by k m ns ≡ true)
next_is k n m ns h = let p = and_parts (n + k == m) (goes_by k m ns) h in (eqb-true (n + k) m p.0, p.1)

-- no number is below the first
below : (k n : ℕ) (ns : List ℕ) (x : ℕ) → goes_by k n ns ≡ true → x < n → contains (n ∷ ns) x ≡ false
below k n [] x h l = rw (ne_eqb x n (λ e. omega (arith, e, l))) refl
below k n (m ∷ ns) x h l =
    let p = next_is k n m ns h in
    rw (ne_eqb x n (λ e. omega (arith, e, l))) (below k m ns x p.1 (omega (arith, p.0, l)))

first_meets : (x n : ℕ) → n ≤ x → (nat_eq x n || false) ≡ (x - n == 0)
first_meets x n l = grind (arith, nat_tests)

-- up to where the step would lead from the last
meets : (k n : ℕ) (ns : List ℕ) (x : ℕ) → 0 < k → goes_by k n ns ≡ true → n ≤ x → x < last_from n ns + k → contains (n ∷ ns) x ≡ ((x - n) % k == 0)
meets k n [] x l h low high =
    let small : (x - n) % k ≡ x - n = mod-eq_of_lt (omega arith) in
    rw small (first_meets x n low)
meets k n (m ∷ ns) x l h low high = elim (cases_lt x m) [
  | inl before ↦
      let p = next_is k n m ns h in
      let small : (x - n) % k ≡ x - n = mod-eq_of_lt (omega (arith, p.0, before)) in
      rw (below k m ns x p.1 before, small) (first_meets x n low)
  | inr behind ↦
      let p = next_is k n m ns h in
      let shifted : (x - m) + k ≡ x - n = omega (arith, p.0, behind) in
      rw (ne_eqb x n (λ e. omega (arith, e, p.0, behind, l)))
      (meets k m ns x l p.1 behind high ∙ ap (λ (y : ℕ). y == 0) (sym (add-mod_right (x - m) k) ∙ ap (λ (y : ℕ). y % k) shifted))
]

above : (k n : ℕ) (ns : List ℕ) → goes_by k n ns ≡ true → n ≤ last_from n ns
above k n [] h = omega arith
above k n (m ∷ ns) h =
    let p = next_is k n m ns h in
    let rest = above k m ns p.1 in
    omega (arith, p.0, rest)

-- no number is above the last
beyond : (k n : ℕ) (ns : List ℕ) (x : ℕ) → goes_by k n ns ≡ true → last_from n ns < x → contains (n ∷ ns) x ≡ false
beyond k n [] x h l = rw (ne_eqb x n (λ e. omega (arith, e, l))) refl
beyond k n (m ∷ ns) x h l =
    let p = next_is k n m ns h in
    let far = above k n (m ∷ ns) h in
    rw (ne_eqb x n (λ e. omega (arith, e, l, far))) (beyond k m ns x p.1 l)

-- a test of numbers from n to l
within : (n l x : ℕ) (c t : Bool) → (x < n → c ≡ false) → (l < x → c ≡ false) → (n ≤ x → x ≤ l → c ≡ t) → c ≡ (nat_le n x && (nat_le x l && t))
within n l x c t low high between = elim (cases_lt x n) [
  | inl before ↦ rw (gtb_le x n before) (low before)
  | inr behind ↦ elim (cases_lt l x) [
    | inl past ↦ rw (le_is n x behind, gtb_le l x past) (high past)
    | inr here ↦ rw (le_is n x behind, le_is x l here) (between behind here)
  ]
] where
  gtb_le : (a b : ℕ) → a < b → nat_le b a ≡ false
  gtb_le a b g = grind (arith, nat_tests)

  le_is : (a b : ℕ) → a ≤ b → nat_le a b ≡ true
  le_is a b g = grind (arith, nat_tests)

pub steps_come_round : StepsComeRound
steps_come_round [] x h = absurd (false≢true h)
steps_come_round (n ∷ []) x h = absurd (false≢true h)
steps_come_round (n ∷ m ∷ ns) x h =
    let p = and_parts (nat_lt n m) (goes_by (m - n) m ns) h in
    let up : n < m = ltb-true n m p.0 in
    let steady : goes_by (m - n) n (m ∷ ns) ≡ true = rw (eq-eqb (n + (m - n)) m (omega arith)) p.1 in
    within n (last_from m ns) x (contains (n ∷ m ∷ ns) x) ((x - n) % (m - n) == 0) (λ l. below (m - n) n (m ∷ ns) x steady l)
    (λ l. beyond (m - n) n (m ∷ ns) x steady l) (λ low high. meets (m - n) n (m ∷ ns) x (omega arith) steady low (omega arith))
