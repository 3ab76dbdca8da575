-- Sets by their words.
use Rattle.std.proofs.Common.{◌≡◌, ℕ, ◌+◌, ◌-◌, ◌*◌, ◌<◌, ◌≤◌, Bool, ◌&&◌, List, refl, sym, ap, ◌∙◌, arith, inl, inr}
use Rattle.std.specs.Prelude.{nat_lt}
use Rattle.std.proofs.lemmas.Bool.{cases_lt, lt-ltb, le-ltb}
use Rattle.cron_units.specs.Units.{TimeUnit, set_of}
use Rattle.cron_bits.specs.Words.{has_bit, bit_of_three}
use Rattle.cron_bits.proofs.WordLemmas.{bit_past}
use Rattle.cron_units.specs.Places.{placed, NonePast}
use Rattle.cron_units.proofs.PlaceLemmas.{placed_is}
use Rattle.cron_units.proofs.SetLemmas.{set_same}

-- no bit is left past the greatest ordinal, and those up to it are as they were
pub cut_past : (u : TimeUnit) (words kept : ℕ → Bool) (greatest least : ℕ) → u.least ≤ u.greatest → greatest ≡ u.greatest → least ≡ u.least
    → ((k : ℕ) → kept k ≡ (nat_lt k (greatest - least + 1) && words k)) → NonePast u kept
cut_past u words kept greatest least ordered g l bits k past = bits k ∙ rw (le-ltb k (greatest - least + 1) (omega arith)) refl

pub cut_set : (u : TimeUnit) (words kept : ℕ → Bool) (greatest least : ℕ) → greatest ≡ u.greatest → least ≡ u.least
    → ((k : ℕ) → kept k ≡ (nat_lt k (greatest - least + 1) && words k)) → placed u kept ≡ set_of u (λ x. words (x - u.least))
cut_set u words kept greatest least g l bits =
    placed_is u kept ∙ set_same u (λ x. kept (x - u.least)) (λ x. words (x - u.least)) (λ x low high. bits (x - u.least)
    ∙ rw (lt-ltb (x - u.least) (greatest - least + 1) (omega arith)) refl)

-- the set of words with the same bits
pub same_set : (u : TimeUnit) (words other : ℕ → Bool) (xs : List ℕ) → placed u words ≡ xs → ((k : ℕ) → other k ≡ words k)
    → set_of u (λ x. other (x - u.least)) ≡ xs
same_set u words other xs is same =
    set_same u (λ x. other (x - u.least)) (λ x. words (x - u.least)) (λ x low high. same (x - u.least)) ∙ (sym (placed_is u words) ∙ is)

-- ---- three words

in_first : (p q r k : ℕ) → k < 64 → bit_of_three p q r k ≡ has_bit p k
in_first p q r k l = rw (lt-ltb k 64 l) refl

in_second : (p q r k : ℕ) → k < 64 → bit_of_three p q r (64 + k) ≡ has_bit q k
in_second p q r k l =
    let rest : 64 + k - 64 ≡ k = omega arith in
    rw (le-ltb (64 + k) 64 (omega arith), rest, lt-ltb k 64 l) refl

in_third : (p q r k : ℕ) → bit_of_three p q r (128 + k) ≡ has_bit r k
in_third p q r k =
    let rest : 128 + k - 64 ≡ 64 + k = omega arith in
    let last : 64 + k - 64 ≡ k = omega arith in
    rw (le-ltb (128 + k) 64 (omega arith), rest, le-ltb (64 + k) 64 (omega arith), last) refl

-- words that are lent one by one have the bits of the three
pub same_three : (a b c p q r : ℕ) → ((k : ℕ) → k < 64 → has_bit a k ≡ bit_of_three p q r (64 * 0 + k))
    → ((k : ℕ) → k < 64 → has_bit b k ≡ bit_of_three p q r (64 * 1 + k)) → ((k : ℕ) → k < 64 → has_bit c k ≡ bit_of_three p q r (64 * 2 + k)) → (k : ℕ)
    → bit_of_three a b c k ≡ bit_of_three p q r k
same_three a b c p q r first second third k = elim (cases_lt k 64) [
  | inl l ↦
      let at : 64 * 0 + k ≡ k = omega arith in in_first a b c k l ∙ (first k l ∙ ap (bit_of_three p q r) at)
  | inr g ↦ elim (cases_lt k 128) [
    | inl l ↦
        let at : 64 * 1 + (k - 64) ≡ k = omega arith in
        let is : k ≡ 64 + (k - 64) = omega arith in
        ap (bit_of_three a b c) is ∙ (in_second a b c (k - 64) (omega arith) ∙ (second (k - 64) (omega arith) ∙ ap (bit_of_three p q r) at))
    | inr h ↦
        let is : k ≡ 128 + (k - 128) = omega arith in
        ap (bit_of_three a b c) is ∙ (in_third a b c (k - 128) ∙ elim (cases_lt k 192) [
          | inl l ↦
              let at : 64 * 2 + (k - 128) ≡ k = omega arith in third (k - 128) (omega arith) ∙ ap (bit_of_three p q r) at
          | inr past ↦ bit_past c (k - 128) (omega arith) ∙ (sym (bit_past r (k - 128) (omega arith))
              ∙ (sym (in_third p q r (k - 128)) ∙ ap (bit_of_three p q r) (sym is)))
        ])
  ]
]
