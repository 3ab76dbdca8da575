-- Bits that stand at equal distances.
use Rattle.std.proofs.Common.{◌≡◌, ℕ, ◌+◌, ◌-◌, ◌*◌, ◌/◌, ◌%◌, ◌^◌, ◌<◌, ◌≤◌, Bool, true, false, ◌&&◌, ◌||◌, cond, List, get_or, refl, sym, ap, ◌∙◌, arith, inl, inr, zero, suc}
use Rattle.std.specs.Prelude.{nat_eq, nat_lt, nat_le}
use Rattle.std.specs.Int.{bit_at}
use Rattle.std.proofs.Math.Nat.{zero-mod, add-mod_right, add-mul-mod_self_right, mod-add-div', mod-eq_of_lt}
use Rattle.std.proofs.lemmas.Nat.{pow_pos, mod-mul-add}
use Rattle.std.proofs.lemmas.Nat.Bits.{bit_at_above, bit_at_cat_high, bit_at_cat_low, bit_at-zero}
use Rattle.std.proofs.lemmas.Bool.{cases_eq, cases_lt, lt-ltb, le-ltb, le-leb, lt-leb, ne_eqb, eqb-true, leb-true, false≢true}
use Rattle.cron_bits.specs.Words.{has_bit, then_bits}
use Rattle.cron_bits.specs.Inner.Rows.{all_below, multiple_digit, are_multiples}
use Rattle.cron_bits.proofs.WordLemmas.{bit_none, bit_past}

low_digit : (n w k : ℕ) → k < w → bit_at (n % 2 ^ w) k ≡ bit_at n k
low_digit n w k l =
    let split : n ≡ n / 2 ^ w * 2 ^ w + n % 2 ^ w = omega (arith, mod-add-div' n (2 ^ w)) in
    sym (ap (λ (m : ℕ). bit_at m k) split ∙ bit_at_cat_low (n / 2 ^ w) w (n % 2 ^ w) k l)

-- the bits of a word that is shifted to the left
pub shifted : (n s k : ℕ) → k < 64 → has_bit (n * 2 ^ s % 2 ^ 64) k ≡ (nat_le s k && has_bit n (k - s))
shifted n s k l =
    let none : n * 2 ^ s ≡ n * 2 ^ s + 0 = omega arith in
    let low : bit_at (n * 2 ^ s % 2 ^ 64) k ≡ bit_at (n * 2 ^ s + 0) k = low_digit (n * 2 ^ s) 64 k l ∙ ap (λ (m : ℕ). bit_at m k) none in
    elim (cases_lt k s) [
      | inl h ↦ rw (lt-ltb k 64 l, low, bit_at_cat_low n s 0 k h, bit_at-zero k, lt-leb s k h) refl
      | inr g ↦ rw (lt-ltb k 64 l, low, bit_at_cat_high n s 0 k (pow_pos s) g, le-leb s k g, lt-ltb (k - s) 64 (omega arith)) refl
    ]

-- ---- the table of multiples

first_true : (a b : Bool) → (a && b) ≡ true → a ≡ true
first_true true b h = refl
first_true false b h = h

rest_true : (a b : Bool) → (a && b) ≡ true → b ≡ true
rest_true true b h = h
rest_true false b h = absurd cc

is_below : (p : ℕ → Bool) (n k : ℕ) → all_below p n ≡ true → k < n → p k ≡ true
is_below p zero k h l = absurd (omega arith)
is_below p (suc n) k h l = elim (cases_lt k n) [
  | inl less ↦ is_below p n k (rest_true (p n) (all_below p n) h) less
  | inr last ↦ let same : k ≡ n = omega (arith, l, last) in rw same (first_true (p n) (all_below p n) h)
]

other_true : (a b : Bool) → a ≡ false → (a || b) ≡ true → b ≡ true
other_true true b e h = absurd cc
other_true false b e h = h

digit_test : (b : Bool) → nat_eq (cond b 1 0) 1 ≡ b
digit_test true = refl
digit_test false = refl

pub row_bits : (rows : List ℕ) (every k : ℕ) → are_multiples rows ≡ true → 0 < every → every < 64
    → has_bit (get_or rows every 0) k ≡ (nat_lt k 64 && nat_eq (k % every) 0)
row_bits rows every k all pos l = elim (cases_lt k 64) [
  | inl small ↦
      let row = other_true (nat_eq every 0) _ (ne_eqb every 0 (λ e. omega (arith, pos, e)))
      (is_below (λ n. nat_eq n 0 || all_below (λ j. nat_eq (bit_at (get_or rows n 0) j) (multiple_digit n j)) 64) 64 every all l) in
      let digit : bit_at (get_or rows every 0) k ≡ multiple_digit every k =
      eqb-true (bit_at (get_or rows every 0) k) (multiple_digit every k)
      (is_below (λ j. nat_eq (bit_at (get_or rows every 0) j) (multiple_digit every j)) 64 k row small) in
      ap (λ (n : ℕ). nat_lt k 64 && nat_eq n 1) digit ∙ ap (λ (b : Bool). nat_lt k 64 && b) (digit_test (nat_eq (k % every) 0))
  | inr g ↦ rw (le-ltb k 64 g) refl
]

-- a number that is no less than 64 has no multiple below it but zero
pub far_multiples : (every k : ℕ) → 64 ≤ every → has_bit 1 k ≡ (nat_lt k 64 && nat_eq (k % every) 0)
far_multiples every k g = elim (cases_lt k 64) [
  | inr past ↦ rw (le-ltb k 64 past) refl
  | inl small ↦
      let same : k % every ≡ k = mod-eq_of_lt (omega (arith, small, g)) in
      elim (cases_eq k 0) [
        | inl e ↦ rw (same, e) refl
        | inr d ↦
            let one : bit_at 1 k ≡ 0 = bit_at_above 1 1 k (omega arith) (omega (arith, d)) in
            ap (λ (n : ℕ). nat_lt k 64 && nat_eq n 1) one ∙ sym (ap (λ (b : Bool). nat_lt k 64 && b) (ne_eqb (k % every) 0 (λ e. d (sym same ∙ e))))
      ]
]

-- ---- from a place on

-- a place is the first, or a whole number of steps after it
abbrev pub nth_place : ℕ → ℕ → ℕ → Bool
nth_place first every k = nat_le first k && nat_eq ((k - first) % every) 0

pub nth_bits : (word first every : ℕ) → ((k : ℕ) → has_bit word k ≡ (nat_lt k 64 && nat_eq (k % every) 0)) → (k : ℕ)
    → has_bit (word * 2 ^ first % 2 ^ 64) k ≡ (nat_lt k 64 && nth_place first every k)
nth_bits word first every bits k = elim (cases_lt k 64) [
  | inl l ↦ shifted word first k l ∙ rw (bits (k - first), lt-ltb (k - first) 64 (omega arith), lt-ltb k 64 l) refl
  | inr g ↦ bit_past (word * 2 ^ first % 2 ^ 64) k g ∙ sym (ap (λ (b : Bool). b && nth_place first every k) (le-ltb k 64 g))
]

pub nth_none : (first every k : ℕ) → 64 ≤ first → has_bit 0 k ≡ (nat_lt k 64 && nth_place first every k)
nth_none first every k g = bit_none k ∙ elim (cases_lt k 64) [
  | inl l ↦ rw (lt-ltb k 64 l, lt-leb first k (omega arith)) refl
  | inr h ↦ sym (ap (λ (b : Bool). b && nth_place first every k) (le-ltb k 64 h))
]

pub nth_then : (low rest : ℕ → Bool) (size first later every : ℕ) → ((k : ℕ) → low k ≡ (nat_lt k 64 && nth_place first every k))
    → ((k : ℕ) → rest k ≡ (nat_lt k size && nth_place later every k)) → ((k : ℕ) → nth_place later every k ≡ nth_place first every (k + 64)) → (k : ℕ)
    → then_bits low rest k ≡ (nat_lt k (64 + size) && nth_place first every k)
nth_then low rest size first later every lows rests same k = elim (cases_lt k 64) [
  | inl l ↦ rw (lt-ltb k 64 l, lows k, lt-ltb k 64 l, lt-ltb k (64 + size) (omega arith)) refl
  | inr g ↦
      let there : k - 64 + 64 ≡ k = omega arith in
      let within : nat_lt (k - 64) size ≡ nat_lt k (64 + size) = elim (cases_lt (k - 64) size) [
        | inl a ↦ rw (lt-ltb (k - 64) size a, lt-ltb k (64 + size) (omega (arith, a, g))) refl
        | inr a ↦ rw (le-ltb (k - 64) size a, le-ltb k (64 + size) (omega (arith, a, g))) refl
      ] in
      rw (le-ltb k 64 g, rests (k - 64), within, same (k - 64)) (ap (λ (j : ℕ). nat_lt k (64 + size) && nth_place first every j) there)
]

-- ---- behind the first word

pub rest_far : (first every k : ℕ) → 64 ≤ first → nth_place (first - 64) every k ≡ nth_place first every (k + 64)
rest_far first every k g =
    let apart : k - (first - 64) ≡ k + 64 - first = omega arith in
    elim (cases_lt k (first - 64)) [
      | inl l ↦ rw (lt-leb (first - 64) k l, lt-leb first (k + 64) (omega (arith, l, g))) refl
      | inr h ↦ rw (apart, le-leb (first - 64) k h, le-leb first (k + 64) (omega (arith, h, g))) refl
    ]

-- the last place before 64 others end
pub record IsLastPlace (first every last : ℕ) : Type 0 where
  pub within : last < 64
  pub from : first ≤ last
  pub steps : (last - first) % every ≡ 0
  pub next : 64 ≤ last + every

nth_true : (first every k : ℕ) → nth_place first every k ≡ true → (first ≤ k) × ((k - first) % every ≡ 0)
nth_true first every k h = (
  leb-true first k (first_true (nat_le first k) (nat_eq ((k - first) % every) 0) h),
  eqb-true ((k - first) % every) 0 (rest_true (nat_le first k) (nat_eq ((k - first) % every) 0) h),
)

true_nth : (first every k : ℕ) → first ≤ k → (k - first) % every ≡ 0 → nth_place first every k ≡ true
true_nth first every k l e = rw (le-leb first k l, e) refl

-- the last one of a word whose ones are such places
pub last_place : (low first every last : ℕ) → 0 < every → ((k : ℕ) → has_bit low k ≡ (nat_lt k 64 && nth_place first every k)) → last < 64
    → has_bit low last ≡ true → ((k : ℕ) → last < k → has_bit low k ≡ false) → IsLastPlace first every last
last_place low first every last pos bits l one none =
    let here = nth_true first every last (sym (bits last ∙ ap (λ (b : Bool). b && nth_place first every last) (lt-ltb last 64 l)) ∙ one) in
    let again : (last + every - first) % every ≡ 0 =
    let apart : last + every - first ≡ last - first + every = omega (arith, here.0) in
    ap (λ (n : ℕ). n % every) apart ∙ (add-mod_right (last - first) every ∙ here.1) in
    let next : 64 ≤ last + every = elim (cases_lt (last + every) 64) [
      | inr g ↦ g
      | inl less ↦
          let there : has_bit low (last + every) ≡ true = bits (last + every)
          ∙ rw (lt-ltb (last + every) 64 less, true_nth first every (last + every) (omega (arith, here.0)) again) refl in
          absurd (false≢true (sym (none (last + every) (omega (arith, pos))) ∙ there))
    ] in
    record { within = l; from = here.0; steps = here.1; next = next }

-- A word without ones ends before the first place.
pub first_far : (low first every : ℕ) → ((k : ℕ) → has_bit low k ≡ (nat_lt k 64 && nth_place first every k)) → ((k : ℕ) → has_bit low k ≡ false)
    → 64 ≤ first
first_far low first every bits none = elim (cases_lt first 64) [
  | inr g ↦ g
  | inl less ↦
      let zero_apart : first - first ≡ 0 = omega arith in
      let start : (first - first) % every ≡ 0 = rw zero_apart (zero-mod every) in
      let there : has_bit low first ≡ true = bits first ∙ rw (lt-ltb first 64 less, true_nth first every first (omega arith) start) refl in
      absurd (false≢true (sym (none first) ∙ there))
]

pub rest_near : (first every k last later : ℕ) → IsLastPlace first every last → later ≡ every - (64 - last)
    → nth_place later every k ≡ nth_place first every (k + 64)
rest_near first every k last later p e =
    let q : ℕ = (last - first) / every in
    let split : (last - first) % every + q * every ≡ last - first = mod-add-div' (last - first) every in
    elim (cases_lt k later) [
      | inl before ↦
          let r : ℕ = k + 64 - last in
          let far : k + 64 - first ≡ q * every + r = omega (arith, split, p.steps, p.from, p.within) in
          let rest : (k + 64 - first) % every ≡ r = ap (λ (n : ℕ). n % every) far ∙ mod-mul-add q every r (omega (arith, before, e, p.within, p.next)) in
          rw (
            lt-leb later k before,
            le-leb first (k + 64) (omega (arith, p.from, p.within)),
            ne_eqb ((k + 64 - first) % every) 0 (λ i. omega (arith, rest, i, p.within)),
          ) refl
      | inr past ↦
          let far : k + 64 - first ≡ k - later + q * every + every = omega (arith, split, p.steps, p.from, p.within, p.next, past, e) in
          let rest : (k + 64 - first) % every ≡ (k - later) % every =
          ap (λ (n : ℕ). n % every) far ∙ (add-mod_right (k - later + q * every) every ∙ add-mul-mod_self_right (k - later) q every) in
          rw (le-leb later k past, le-leb first (k + 64) (omega (arith, p.from, p.within)), rest) refl
    ]
