-- What the operations on words do to their bits.
use Rattle.std.proofs.Common.{◌≡◌, ℕ, ◌+◌, ◌-◌, ◌*◌, ◌%◌, ◌^◌, ◌<◌, ◌≤◌, Bool, true, false, ◌&&◌, ◌||◌, not, cond, refl, sym, ap, ◌∙◌, arith, zero, suc, inl, inr, w64, bit_and, bit_or, min, max, subst}
use Rattle.std.specs.Prelude.{nat_lt, nat_le, nat_eq, count_ones}
use Rattle.std.specs.Int.{bit_at, bit_not, trailing_zeros, leading_zeros}
use Rattle.std.specs.List.{range_with_len}
use Rattle.std.proofs.lemmas.Bool.{cases_lt, cases_eq, lt-ltb, le-ltb, le-leb, lt-leb, eq-eqb, ne_eqb, and_right}
use Rattle.std.proofs.lemmas.List.Sums.{length-filter}
use Rattle.std.proofs.Math.Bool.{or-false, or-true}
use Rattle.std.proofs.Math.Nat.{pow-succ'}
use Rattle.std.proofs.lemmas.Nat.{leading_top}
use Rattle.std.proofs.lemmas.Nat.Bits.{bit_at_and, bit_at_or, bit_at_not, bit_at-lt, bit_at_above, bit_at_ones, bit_at_mask_inside, bit_at_mask_below, ones_shl, bit_at-trailing_zeros, bit_at-zero, bit_at_set_same, bit_at_set_other, bit_at_clear_same, bit_at_clear_other, bit_at_cat_high}
use Rattle.std.proofs.lemmas.Simd.{ones-mask_l}
use Rattle.cron_bits.specs.Words.{has_bit, word_of, count_below}
use Rattle.cron_bits.specs.Inner.RowLaws.{here, word_remade}

pub bit_past : (n k : ℕ) → 64 ≤ k → has_bit n k ≡ false
bit_past n k l = rw (le-ltb k 64 l) refl

digit : (b : Bool) → nat_eq (cond b 1 0) 1 ≡ b
digit true = refl
digit false = refl

pub bit_none : (k : ℕ) → has_bit 0 k ≡ false
bit_none k = rw (bit_at-zero k) (and_right (nat_lt k 64) false refl)

pub bit_full : (k : ℕ) → has_bit (2 ^ 64 - 1) k ≡ nat_lt k 64
bit_full k = elim (cases_lt k 64) [
  | inl l ↦ rw (bit_at_ones 64 k l, lt-ltb k 64 l) refl
  | inr g ↦ rw (le-ltb k 64 g) refl
]

max_test : (d e : ℕ) → d < 2 → e < 2 → nat_eq (max d e) 1 ≡ (nat_eq d 1 || nat_eq e 1)
max_test zero zero l g = refl
max_test zero (suc zero) l g = refl
max_test (suc zero) zero l g = refl
max_test (suc zero) (suc zero) l g = refl
max_test (suc (suc d)) e l g = absurd (omega arith)
max_test d (suc (suc e)) l g = absurd (omega arith)

min_test : (d e : ℕ) → d < 2 → e < 2 → nat_eq (min d e) 1 ≡ (nat_eq d 1 && nat_eq e 1)
min_test zero zero l g = refl
min_test zero (suc zero) l g = refl
min_test (suc zero) zero l g = refl
min_test (suc zero) (suc zero) l g = refl
min_test (suc (suc d)) e l g = absurd (omega arith)
min_test d (suc (suc e)) l g = absurd (omega arith)

pub bit_or_test : (n m k : ℕ) → has_bit (bit_or n m) k ≡ (has_bit n k || has_bit m k)
bit_or_test n m k = elim (cases_lt k 64) [
  | inl l ↦ rw (lt-ltb k 64 l, bit_at_or n m k) (max_test (bit_at n k) (bit_at m k) (bit_at-lt n k) (bit_at-lt m k))
  | inr g ↦ rw (le-ltb k 64 g) refl
]

pub bit_and_test : (n m k : ℕ) → has_bit (bit_and n m) k ≡ (has_bit n k && has_bit m k)
bit_and_test n m k = elim (cases_lt k 64) [
  | inl l ↦ rw (lt-ltb k 64 l, bit_at_and n m k) (min_test (bit_at n k) (bit_at m k) (bit_at-lt n k) (bit_at-lt m k))
  | inr g ↦ rw (le-ltb k 64 g) refl
]

-- ---- `MAX << i`, and its complement

mask_from : (i k : ℕ) → i < 64 → k < 64 → nat_eq (bit_at ((2 ^ 64 - 1) * 2 ^ i % 2 ^ 64) k) 1 ≡ nat_le i k
mask_from i k l g = elim (cases_lt k i) [
  | inl h ↦ rw (ones_shl 64 i (omega arith), bit_at_mask_below i 64 k h, lt-leb i k h) refl
  | inr h ↦ rw (ones_shl 64 i (omega arith), bit_at_mask_inside i 64 k h g, le-leb i k h) refl
]

flipped : (d : ℕ) → d < 2 → nat_eq (1 - d) 1 ≡ not (nat_eq d 1)
flipped zero l = refl
flipped (suc zero) l = refl
flipped (suc (suc d)) l = absurd (omega arith)

not_before : (i k : ℕ) → not (nat_le i k) ≡ nat_lt k i
not_before i k = elim (cases_lt k i) [
  | inl h ↦ rw (lt-leb i k h, lt-ltb k i h) refl
  | inr h ↦ rw (le-leb i k h, le-ltb k i h) refl
]

mask_to : (i k : ℕ) → i < 64 → k < 64 → nat_eq (bit_at (bit_not w64 ((2 ^ 64 - 1) * 2 ^ i % 2 ^ 64)) k) 1 ≡ nat_lt k i
mask_to i k l g =
    let m : ℕ = (2 ^ 64 - 1) * 2 ^ i % 2 ^ 64 in
    let fits : m < 2 ^ 64 = omega arith in
    ap (λ (d : ℕ). nat_eq d 1) (bit_at_not w64 m k fits g) ∙ (flipped (bit_at m k) (bit_at-lt m k) ∙ (ap not (mask_from i k l g) ∙ not_before i k))

and_swap : (a b : Bool) → (a && b) ≡ (b && a)
and_swap true true = refl
and_swap true false = refl
and_swap false true = refl
and_swap false false = refl

swapped : (a b c : Bool) → b ≡ c → (a && b) ≡ (c && a)
swapped a b c e = rw e (and_swap a c)

-- `n & m` keeps the bits where m has ones
kept : (n m k : ℕ) (b : Bool) → (k < 64 → nat_eq (bit_at m k) 1 ≡ b) → has_bit (bit_and n m) k ≡ (b && has_bit n k)
kept n m k b h = elim (cases_lt k 64) [
  | inl l ↦ bit_and_test n m k ∙ swapped (has_bit n k) (has_bit m k) b (here m k l ∙ h l)
  | inr g ↦ bit_past (bit_and n m) k g ∙ sym (and_right b (has_bit n k) (bit_past n k g))
]

pub bit_from : (n i k : ℕ) → i < 64 → has_bit (bit_and n ((2 ^ 64 - 1) * 2 ^ i % 2 ^ 64)) k ≡ (nat_le i k && has_bit n k)
bit_from n i k l = kept n ((2 ^ 64 - 1) * 2 ^ i % 2 ^ 64) k (nat_le i k) (mask_from i k l)

pub bit_to : (n i k : ℕ) → i < 64 → has_bit (bit_and n (bit_not w64 ((2 ^ 64 - 1) * 2 ^ i % 2 ^ 64))) k ≡ (nat_lt k i && has_bit n k)
bit_to n i k l = kept n (bit_not w64 ((2 ^ 64 - 1) * 2 ^ i % 2 ^ 64)) k (nat_lt k i) (mask_to i k l)

-- No bit of a word is at 64 or past it.
pub bit_from_past : (n i k : ℕ) → 64 ≤ i → false ≡ (nat_le i k && has_bit n k)
bit_from_past n i k l = elim (cases_lt k i) [
  | inl h ↦ rw (lt-leb i k h) refl
  | inr h ↦ sym (and_right (nat_le i k) (has_bit n k) (bit_past n k (omega arith)))
]

pub bit_to_past : (n i k : ℕ) → 64 ≤ i → has_bit n k ≡ (nat_lt k i && has_bit n k)
bit_to_past n i k l = elim (cases_lt k i) [
  | inl h ↦ rw (lt-ltb k i h) refl
  | inr h ↦ bit_past n k (omega arith) ∙ sym (and_right (nat_lt k i) (has_bit n k) (bit_past n k (omega arith)))
]

-- ---- one bit set, and cleared

pub bit_with : (n i k : ℕ) → i < 64 → has_bit (bit_or n (1 * 2 ^ i % 2 ^ 64)) k ≡ (has_bit n k || nat_eq k i)
bit_with n i k l = elim (cases_eq k i) [
  | inl e ↦ subst (λ (j : ℕ). has_bit (bit_or n (1 * 2 ^ i % 2 ^ 64)) j ≡ (has_bit n j || nat_eq j i)) (sym e)
      (rw (lt-ltb i 64 l, bit_at_set_same w64 n i l, eq-eqb i i refl) (sym (or-true (true && nat_eq (bit_at n i) 1))))
  | inr d ↦ rw (bit_at_set_other w64 n i l k d, ne_eqb k i d) (sym (or-false (has_bit n k)))
]

pub bit_without : (n i k : ℕ) → i < 64 → has_bit (bit_and n (bit_not w64 (1 * 2 ^ i % 2 ^ 64))) k ≡ (not (nat_eq k i) && has_bit n k)
bit_without n i k l = elim (cases_eq k i) [
  | inl e ↦ subst (λ (j : ℕ). has_bit (bit_and n (bit_not w64 (1 * 2 ^ i % 2 ^ 64))) j ≡ (not (nat_eq j i) && has_bit n j)) (sym e)
      (rw (lt-ltb i 64 l, bit_at_clear_same w64 n i l, eq-eqb i i refl) refl)
  | inr d ↦ elim (cases_lt k 64) [
    | inl g ↦ rw (lt-ltb k 64 g, bit_at_clear_other w64 n i l k g d, ne_eqb k i d) refl
    | inr g ↦ rw (le-ltb k 64 g, ne_eqb k i d) refl
  ]
]

pub bit_without_past : (n i k : ℕ) → 64 ≤ i → has_bit n k ≡ (not (nat_eq k i) && has_bit n k)
bit_without_past n i k l = elim (cases_eq k i) [
  | inl e ↦ bit_past n k (omega (arith, e)) ∙ sym (and_right (not (nat_eq k i)) (has_bit n k) (bit_past n k (omega (arith, e))))
  | inr d ↦ rw (ne_eqb k i d) refl
]

-- ---- the first and the last

pub lowest_bit : (n : ℕ) → (n ≡ 0 → ⊥) → n < 2 ^ 64 → (trailing_zeros w64 n < 64) × (has_bit n (trailing_zeros w64 n) ≡ true) × ((k : ℕ)
    → k < trailing_zeros w64 n → has_bit n k ≡ false)
lowest_bit n pos fits =
    let facts = bit_at-trailing_zeros w64 n (omega (arith, pos)) fits in
    let i : ℕ = trailing_zeros w64 n in
    (facts.0, here n i facts.0 ∙ ap (λ (d : ℕ). nat_eq d 1) facts.1, λ k l. here n k (omega (arith, l, facts.0)) ∙ ap (λ (d : ℕ). nat_eq d 1) (facts.2 k l))

top_digit : (n j : ℕ) → 2 ^ j ≤ n → n < 2 ^ suc j → bit_at n j ≡ 1
top_digit n j l g =
    let doubled : 2 ^ suc j ≡ 2 * 2 ^ j = pow-succ' 2 j in
    let split : n ≡ 1 * 2 ^ j + (n - 2 ^ j) = omega (arith, doubled) in
    let rest : n - 2 ^ j < 2 ^ j = omega (arith, doubled) in
    let zero_apart : j - j ≡ 0 = omega arith in
    ap (λ (m : ℕ). bit_at m j) split ∙ (bit_at_cat_high 1 j (n - 2 ^ j) j rest (omega arith) ∙ ap (λ (k : ℕ). bit_at 1 k) zero_apart)

pub highest_bit : (n i : ℕ) → (n ≡ 0 → ⊥) → n < 2 ^ 64 → i ≡ 63 - leading_zeros w64 n
    → (i < 64) × (has_bit n i ≡ true) × ((k : ℕ) → i < k → has_bit n k ≡ false)
highest_bit n i pos fits e =
    let facts = leading_top 64 n (omega (arith, pos)) fits in
    let j : ℕ = facts.0 in
    let same : i ≡ j = omega (arith, facts.1, e) in
    let within : j < 64 = omega (arith, facts.1) in
    subst (λ (i : ℕ). (i < 64) × (has_bit n i ≡ true) × ((k : ℕ) → i < k → has_bit n k ≡ false)) (sym same) (
      within,
      here n j within ∙ ap (λ (d : ℕ). nat_eq d 1) (top_digit n j facts.2 facts.3),
      λ k l. ap (λ (d : ℕ). nat_lt k 64 && nat_eq d 1) (bit_at_above n (suc j) k facts.3 (omega arith)) ∙ and_right (nat_lt k 64) false refl,
    )

pub bit_count : (n : ℕ) → n < 2 ^ 64 → count_ones n ≡ count_below (has_bit n) 64
unfolding word_of count_below
bit_count n fits =
    ap count_ones (sym (word_remade n (has_bit n) fits (λ k (l : k < 64). refl)))
    ∙ (ones-mask_l (has_bit n) (range_with_len 0 64) ∙ sym (length-filter (has_bit n) (range_with_len 0 64)))
