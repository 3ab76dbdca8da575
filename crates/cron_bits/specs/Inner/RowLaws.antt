-- The laws of rows of bits. The trait `Words` states them of its types, so they stand where its
-- clauses can cite them.
use Rattle.std.proofs.Common.{◌≡◌, ℕ, ◌+◌, ◌-◌, ◌^◌, ◌<◌, Bool, true, false, cond, refl, sym, ap, ◌∙◌, arith, zero, suc, inl, inr, subst}
use Rattle.std.specs.Prelude.{nat_lt, nat_eq, map}
use Rattle.std.specs.Int.{bit_at}
use Rattle.std.specs.List.{range_with_len}
use Rattle.std.proofs.lemmas.Bool.{cases_lt, lt-ltb, le-ltb, and_parts, ltb-true}
use Rattle.std.proofs.lemmas.List.FromFn.{length-map-range_with_len, get_or-map-range_with_len}
use Rattle.std.proofs.lemmas.Nat.Bits.{bit_at-lt, same_from_bits_below}
use Rattle.std.proofs.lemmas.Simd.{bit_mask_l, mask_l-lt}
use Rattle.cron_bits.specs.Words.{has_bit, word_of, then_bits}
use Rattle.cron_bits.specs.declared.words.Longer.{Longer}

pub bit_within : (n k : ℕ) → has_bit n k ≡ true → k < 64
bit_within n k h = ltb-true k 64 (and_parts (nat_lt k 64) (nat_eq (bit_at n k) 1) h).0

-- bit k of a word, for a k below 64, is 1 exactly if the binary digit at place k is
pub here : (n k : ℕ) → k < 64 → has_bit n k ≡ nat_eq (bit_at n k) 1
here n k l = rw (lt-ltb k 64 l) refl

-- a binary digit is 1 if it equals 1, and else 0
as_digit : (d : ℕ) → d < 2 → d ≡ cond (nat_eq d 1) 1 0
as_digit zero l = refl
as_digit (suc zero) l = refl
as_digit (suc (suc d)) l = absurd (omega arith)

-- `word_of` gives a word back from its 64 bits
pub word_remade : (n : ℕ) (test : ℕ → Bool) → n < 2 ^ 64 → ((k : ℕ) → k < 64 → test k ≡ has_bit n k) → word_of test ≡ n
unfolding word_of
word_remade n test fits same =
    same_from_bits_below 64 (word_of test) n (subst (λ (w : ℕ). word_of test < 2 ^ w) (length-map-range_with_len test 0 64)
    (mask_l-lt (map test (range_with_len 0 64)))) fits
    (λ k l. bit_mask_l (map test (range_with_len 0 64)) k
    ∙ (ap (λ (b : Bool). cond b 1 0) (get_or-map-range_with_len test 0 64 k k false l (omega arith) ∙ (same k l ∙ here n k l))
    ∙ sym (as_digit (bit_at n k) (bit_at-lt n k))))

-- ---- a word, and others after it

pub then_low : (low rest : ℕ → Bool) (k : ℕ) → k < 64 → then_bits low rest k ≡ low k
then_low low rest k l = rw (lt-ltb k 64 l) refl

pub then_rest : (low rest : ℕ → Bool) (k : ℕ) → then_bits low rest (k + 64) ≡ rest k
then_rest low rest k =
    let back : k + 64 - 64 ≡ k = omega arith in
    rw (le-ltb (k + 64) 64 (omega arith)) (ap rest back)

pub then_within : (low rest : ℕ → Bool) (size : ℕ) → ((k : ℕ) → rest k ≡ true → k < size) → (k : ℕ) → then_bits low rest k ≡ true → k < 64 + size
then_within low rest size within k h = elim (cases_lt k 64) [
  | inl l ↦ omega arith
  | inr g ↦
      let at : rest (k - 64) ≡ true = rw (le-ltb k 64 g) at h in
      omega (arith, within (k - 64) at, g)
]

pub then_remade : {R : Type 0} (made : (ℕ → Bool) → R) (has : R → ℕ → Bool) (words : Longer R) (test : ℕ → Bool) → words.low < 2 ^ 64
    → ((other : ℕ → Bool) → ((k : ℕ) → other k ≡ has words.rest k) → made other ≡ words.rest)
    → ((k : ℕ) → test k ≡ then_bits (has_bit words.low) (has words.rest) k) → record { low = word_of test; rest = made (λ k. test (k + 64)) } ≡ words
then_remade made has words test fits rest same =
    let low_same : word_of test ≡ words.low = word_remade words.low test fits (λ k l. same k ∙ then_low (has_bit words.low) (has words.rest) k l) in
    let rest_same : made (λ k. test (k + 64)) ≡ words.rest = rest (λ k. test (k + 64)) (λ k. same (k + 64)
    ∙ then_rest (has_bit words.low) (has words.rest) k) in
    rw (low_same, rest_same) refl
