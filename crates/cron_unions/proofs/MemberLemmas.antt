-- Sets of a unit whose bits a test makes of those of two sets.
use Rattle.std.proofs.Common.{◌≡◌, ℕ, ◌-◌, ◌<◌, ◌≤◌, ◌^◌, Bool, true, false, ◌&&◌, not, cond, List, refl, sym, ap, ◌∙◌, arith, zero, suc, inl, inr, w64, bit_and}
use Rattle.std.specs.Prelude.{nat_lt, nat_eq}
use Rattle.std.specs.Int.{bit_at, bit_not}
use Rattle.std.proofs.lemmas.Bool.{cases_lt}
use Rattle.std.proofs.lemmas.Nat.Bits.{bit_at_not, bit_at-lt}
use Rattle.cron_bits.specs.Words.{bit_of_three, has_bit, then_bits}
use Rattle.cron_bits.specs.Inner.RowLaws.{here}
use Rattle.cron_bits.proofs.WordLemmas.{bit_and_test, bit_past}
use Rattle.cron_units.specs.Units.{TimeUnit, contains, set_of}
use Rattle.cron_units.proofs.SetLemmas.{contains_after, contains_before, contains_set}

-- such a set has what the test makes of their members
pub made_of_two : (u : TimeUnit) (f : Bool → Bool → Bool) (p q r : ℕ → Bool) (xs ys zs : List ℕ) → u.least ≤ u.greatest → f false false ≡ false
    → zs ≡ set_of u r → set_of u p ≡ xs → set_of u q ≡ ys → ((x : ℕ) → r x ≡ f (p x) (q x)) → (x : ℕ)
    → contains zs x ≡ f (contains xs x) (contains ys x)
made_of_two u f p q r xs ys zs ordered none made first second bits x =
    rw (made, ← first, ← second) (elim (cases_lt x u.least) [
      | inl l ↦ rw (contains_before u r x l, contains_before u p x l, contains_before u q x l) (sym none)
      | inr g ↦ elim (cases_lt u.greatest x) [
        | inl l ↦ rw (contains_after u r x ordered l, contains_after u p x ordered l, contains_after u q x ordered l) (sym none)
        | inr h ↦ rw (contains_set u r x g h, contains_set u p x g h, contains_set u q x g h) (bits x)
      ]
    ])

-- ---- bits of one alone

flipped : (d : ℕ) → d < 2 → nat_eq (1 - d) 1 ≡ not (nat_eq d 1)
flipped zero l = refl
flipped (suc zero) l = refl
flipped (suc (suc d)) l = absurd (omega arith)

pub bit_own_test : (n m k : ℕ) → m < 2 ^ 64 → has_bit (bit_and n (bit_not w64 m)) k ≡ (has_bit n k && not (has_bit m k))
bit_own_test n m k fits = elim (cases_lt k 64) [
  | inl l ↦ bit_and_test n (bit_not w64 m) k
      ∙ ap (λ (b : Bool). has_bit n k && b)
      (here (bit_not w64 m) k l ∙ (ap (λ (d : ℕ). nat_eq d 1) (bit_at_not w64 m k fits l)
      ∙ (flipped (bit_at m k) (bit_at-lt m k) ∙ ap not (sym (here m k l)))))
  | inr g ↦ rw (bit_past (bit_and n (bit_not w64 m)) k g, bit_past n k g) refl
]

-- ---- three words

chosen : (f : Bool → Bool → Bool) (t a b c d e g : Bool) → c ≡ f a b → g ≡ f d e → cond t c g ≡ f (cond t a d) (cond t b e)
chosen f true a b c d e g low rest = low
chosen f false a b c d e g low rest = rest

pub then_of_two : (f : Bool → Bool → Bool) (a b c d e g : ℕ → Bool) → ((k : ℕ) → c k ≡ f (a k) (b k)) → ((k : ℕ) → g k ≡ f (d k) (e k)) → (k : ℕ)
    → then_bits c g k ≡ f (then_bits a d k) (then_bits b e k)
then_of_two f a b c d e g low rest k =
    chosen f (nat_lt k 64) (a k) (b k) (c k) (d (k - 64)) (e (k - 64)) (g (k - 64)) (low k) (rest (k - 64))

pub three_of_two : (f : Bool → Bool → Bool) (a b c d e g h i j : ℕ) → ((k : ℕ) → has_bit c k ≡ f (has_bit a k) (has_bit b k))
    → ((k : ℕ) → has_bit g k ≡ f (has_bit d k) (has_bit e k)) → ((k : ℕ) → has_bit j k ≡ f (has_bit h k) (has_bit i k)) → (k : ℕ)
    → bit_of_three c g j k ≡ f (bit_of_three a d h k) (bit_of_three b e i k)
three_of_two f a b c d e g h i j low middle high =
    then_of_two f (has_bit a) (has_bit b) (has_bit c) (then_bits (has_bit d) (has_bit h)) (then_bits (has_bit e) (has_bit i))
    (then_bits (has_bit g) (has_bit j)) low (then_of_two f (has_bit d) (has_bit e) (has_bit g) (has_bit h) (has_bit i) (has_bit j) middle high)
