-- The bits of a word that stands for the days of the week, over and over.
use Rattle.std.proofs.Common.{◌≡◌, ℕ, ◌+◌, ◌-◌, ◌*◌, ◌/◌, ◌%◌, ◌^◌, ◌<◌, Bool, ◌&&◌, refl, sym, ap, ◌∙◌, arith, inl, inr, bit_or}
use Rattle.std.specs.Prelude.{nat_eq, nat_lt}
use Rattle.std.specs.Int.{bit_at}
use Rattle.std.proofs.Math.Bool.{or-false}
use Rattle.std.proofs.Math.Nat.{mod-add-div', mod-lt}
use Rattle.std.proofs.lemmas.Nat.{pow_pos}
use Rattle.std.proofs.lemmas.Nat.Bits.{bit_at_cat_high}
use Rattle.std.proofs.lemmas.Bool.{cases_lt, lt-ltb, le-ltb, le-leb, lt-leb}
use Rattle.cron_bits.specs.Words.{has_bit}
use Rattle.cron_bits.proofs.Doubling.{shifted}
use Rattle.cron_bits.proofs.WordLemmas.{bit_or_test}

-- below a number, each seventh bit is the same
abbrev pub repeats : (ℕ → Bool) → ℕ → ℕ → Bool
repeats p reach k = nat_lt k reach && p (k % 7)

pub once : (p : ℕ → Bool) (k : ℕ) → (nat_lt k 7 && p k) ≡ repeats p 7 k
once p k = elim (cases_lt k 7) [
  | inl l ↦ let same : k % 7 ≡ k = omega arith in rw (lt-ltb k 7 l, same) refl
  | inr g ↦ rw (le-ltb k 7 g) refl
]

-- the word laid over itself reaches twice as far
pub twice : (p : ℕ → Bool) (word reach k : ℕ) → k < 64 → reach % 7 ≡ 0 → ((j : ℕ) → j < 64 → has_bit word j ≡ repeats p reach j)
    → has_bit (bit_or word (word * 2 ^ reach % 2 ^ 64)) k ≡ repeats p (reach * 2) k
twice p word reach k l e bits =
    bit_or_test word (word * 2 ^ reach % 2 ^ 64) k ∙ elim (cases_lt k reach) [
      | inl h ↦ rw (shifted word reach k l, lt-leb reach k h, bits k l, lt-ltb k reach h, lt-ltb k (reach * 2) (omega arith)) (or-false (p (k % 7)))
      | inr g ↦
          let same : (k - reach) % 7 ≡ k % 7 = omega (arith, e, g) in
          let before : nat_lt (k - reach) reach ≡ nat_lt k (reach * 2) = elim (cases_lt (k - reach) reach) [
            | inl a ↦ rw (lt-ltb (k - reach) reach a, lt-ltb k (reach * 2) (omega (arith, a, g))) refl
            | inr a ↦ rw (le-ltb (k - reach) reach a, le-ltb k (reach * 2) (omega (arith, a, g))) refl
          ] in
          rw (shifted word reach k l, le-leb reach k g, bits k l, le-ltb k reach g, bits (k - reach) (omega arith), before, same) refl
    ]

-- the bits of a word that is shifted to the right
shifted_down : (n r k : ℕ) → bit_at (n / 2 ^ r) k ≡ bit_at n (k + r)
shifted_down n r k =
    let split : n / 2 ^ r * 2 ^ r + n % 2 ^ r ≡ n = omega (arith, mod-add-div' n (2 ^ r)) in
    let back : k + r - r ≡ k = omega arith in
    let small : n % 2 ^ r < 2 ^ r = mod-lt n (pow_pos r) in
    let high : bit_at (n / 2 ^ r * 2 ^ r + n % 2 ^ r) (k + r) ≡ bit_at (n / 2 ^ r) (k + r - r) =
    bit_at_cat_high (n / 2 ^ r) r (n % 2 ^ r) (k + r) small (omega arith) in
    sym (ap (λ (m : ℕ). bit_at m (k + r)) (sym split) ∙ high ∙ ap (λ (j : ℕ). bit_at (n / 2 ^ r) j) back)

-- from a day of the week on, the bits of 32 days
pub week_from : (p : ℕ → Bool) (word r k : ℕ) → k < 32 → r < 7 → ((j : ℕ) → j < 64 → has_bit word j ≡ repeats p 56 j)
    → has_bit (word / 2 ^ r) k ≡ p ((k + r) % 7)
week_from p word r k l small bits =
    rw (lt-ltb k 64 (omega arith), shifted_down word r k) (there (k + r) (omega arith)
    (bits (k + r) (omega arith)))
  where
    there : (j : ℕ) → j < 56 → has_bit word j ≡ repeats p 56 j → nat_eq (bit_at word j) 1 ≡ p (j % 7)
    there j h e = rw (lt-ltb j 64 (omega arith), lt-ltb j 56 h) at e
