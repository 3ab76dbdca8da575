-- Which months have a length, by words of bits.
use Rattle.std.proofs.Common.{◌≡◌, ℕ, ◌+◌, ◌-◌, ◌<◌, ◌≤◌, pos, Bool, true, false, ◌&&◌, ◌||◌, not, cond, List, refl, sym, ap, ◌∙◌, arith, zero, suc, inl, inr}
use Rattle.std.specs.Prelude.{nat_eq, nat_le}
use Rattle.std.proofs.lemmas.Bool.{cases_lt, cases_eq, and_parts, ne_eqb, eq-eqb}
use Rattle.std.proofs.lemmas.Bool.Decides.{nat_tests}
use Rattle.jiff_core.specs.Calendar.{days_in_month}
use Rattle.cron_bits.specs.Words.{bit_of_three, has_bit}
use Rattle.cron_bits.specs.Inner.Rows.{all_below}
use Rattle.cron_units.specs.Units.{TimeUnit, contains, days_of_month, months, set_of, years}
use Rattle.cron_units.proofs.SetLemmas.{contains_after, contains_before, contains_set}
use Rattle.cron_comparing.specs.Inner.Lengths.{can_have, suits_year}

-- ---- a test of each ordinal by a table

abbrev same : Bool → Bool → Bool
same true b = b
same false b = not b

same_is : (a b : Bool) → same a b ≡ true → a ≡ b
same_is true true h = refl
same_is true false h = cc
same_is false true h = cc
same_is false false h = refl

below_all : (p : ℕ → Bool) (n k : ℕ) → all_below p n ≡ true → k < n → p k ≡ true
below_all p zero k h l = absurd (omega arith)
below_all p (suc n) k h l = elim (cases_lt k n) [
  | inl less ↦ below_all p n k (and_parts (p n) (all_below p n) h).1 less
  | inr last ↦ let is : k ≡ n = omega (arith, l, last) in rw is (and_parts (p n) (all_below p n) h).0
]

tabled : (u : TimeUnit) (xs : List ℕ) (has want : ℕ → Bool) → xs ≡ set_of u (λ x. has (x - u.least))
    → all_below (λ k. same (has k) (want (u.least + k))) (u.greatest + 1 - u.least) ≡ true
    → (x : ℕ) → u.least ≤ x → x ≤ u.greatest → contains xs x ≡ want x
tabled u xs has want made all x l g =
    let at : same (has (x - u.least)) (want (u.least + (x - u.least))) ≡ true = below_all (λ k. same (has k) (want (u.least + k))) (u.greatest + 1 - u.least)
    (x - u.least) all (omega arith) in
    let back : u.least + (x - u.least) ≡ x = omega arith in
    ap (λ (ys : List ℕ). contains ys x) made
    ∙ (contains_set u (λ y. has (y - u.least)) x l g ∙ (same_is (has (x - u.least)) (want (u.least + (x - u.least))) at ∙ ap want back))

-- ---- months

pub months_31 : (xs : List ℕ) → xs ≡ set_of months (λ x. has_bit 0b1010_1101_0101 (x - 1)) → (m : ℕ) → 1 ≤ m → m ≤ 12 → contains xs m ≡ can_have 31 m
months_31 xs made m l g = tabled months xs (has_bit 0b1010_1101_0101) (can_have 31) made refl m l g

pub months_30 : (xs : List ℕ) → xs ≡ set_of months (λ x. has_bit 0b0101_0010_1000 (x - 1)) → (m : ℕ) → 1 ≤ m → m ≤ 12 → contains xs m ≡ can_have 30 m
months_30 xs made m l g = tabled months xs (has_bit 0b0101_0010_1000) (can_have 30) made refl m l g

pub months_february : (xs : List ℕ) (length : ℕ) → 28 ≤ length → length ≤ 29 → xs ≡ set_of months (λ x. has_bit 0b10 (x - 1)) → (m : ℕ) → 1 ≤ m → m ≤ 12
    → contains xs m ≡ can_have length m
months_february xs length low high made m l g = elim (cases_eq length 28) [
  | inl e ↦ rw e (tabled months xs (has_bit 0b10) (can_have 28) made refl m l g)
  | inr d ↦ let e : length ≡ 29 = omega (arith, d) in rw e (tabled months xs (has_bit 0b10) (can_have 29) made refl m l g)
]

-- ---- years

pub years_28 : (xs : List ℕ)
    → xs ≡ set_of years (λ x. bit_of_three 0xbbbb_bbbb_bbbb_bbbb 0xbbbb_bbbb_bbbb_bbbb 0b111 (x - 1970)) → (y : ℕ) → 1970 ≤ y → y ≤ 2100
    → contains xs y ≡ suits_year 28 y
years_28 xs made y l g = tabled years xs (bit_of_three 0xbbbb_bbbb_bbbb_bbbb 0xbbbb_bbbb_bbbb_bbbb 0b111) (suits_year 28) made refl y l g

pub years_29 : (xs : List ℕ)
    → xs ≡ set_of years (λ x. bit_of_three 0x4444_4444_4444_4444 0x4444_4444_4444_4444 0 (x - 1970)) → (y : ℕ) → 1970 ≤ y → y ≤ 2100
    → contains xs y ≡ suits_year 29 y
years_29 xs made y l g = tabled years xs (bit_of_three 0x4444_4444_4444_4444 0x4444_4444_4444_4444 0) (suits_year 29) made refl y l g

any_year : (length y : ℕ) → 30 ≤ length → suits_year length y ≡ true
any_year length y l = grind (arith, nat_tests)

pub years_all : (xs : List ℕ) (length : ℕ) → 30 ≤ length
    → xs ≡ set_of years (λ x. bit_of_three 0xffff_ffff_ffff_ffff 0xffff_ffff_ffff_ffff 0b111 (x - 1970)) → (y : ℕ) → 1970 ≤ y → y ≤ 2100
    → contains xs y ≡ suits_year length y
years_all xs length low made y l g =
    tabled years xs (bit_of_three 0xffff_ffff_ffff_ffff 0xffff_ffff_ffff_ffff 0b111) (λ x. true) made refl y l g ∙ sym (any_year length y low)

-- ---- both

both_kinds : (length : ℕ) (two thirty leap : Bool) → 28 ≤ length → length ≤ 31
    → ((nat_le 30 length || nat_eq (cond leap 29 28) length)
    && (nat_eq (cond two 29 (cond thirty 30 31)) length || nat_eq (cond two 28 (cond thirty 30 31)) length))
    ≡ nat_eq (cond two (cond leap 29 28) (cond thirty 30 31)) length
both_kinds length true thirty true l g = grind (arith, nat_tests)
both_kinds length true thirty false l g = grind (arith, nat_tests)
both_kinds length false true true l g = grind (arith, nat_tests)
both_kinds length false true false l g = grind (arith, nat_tests)
both_kinds length false false true l g = grind (arith, nat_tests)
both_kinds length false false false l g = grind (arith, nat_tests)

-- a month of a year has the length exactly where both suit it
pub has_length : (length y m : ℕ) → 28 ≤ length → length ≤ 31 → (suits_year length y && can_have length m) ≡ nat_eq (days_in_month (pos y) m) length
has_length length y m l g = both_kinds length _ _ _ l g

-- ---- days

no_more : (t : Bool) → t ≡ false → (false || t) ≡ false
no_more t e = e

same_place : (d length : ℕ) → 1 ≤ d → 1 ≤ length → nat_eq (d - 1) (length - 1) ≡ nat_eq d length
same_place d length l g = elim (cases_eq d length) [
  | inl e ↦ rw (eq-eqb d length e, eq-eqb (d - 1) (length - 1) (ap (λ (n : ℕ). n - 1) e)) refl
  | inr a ↦ rw (ne_eqb d length a, ne_eqb (d - 1) (length - 1) (λ e. a (omega arith))) refl
]

-- a set with one more bit has one more day
pub marked_days : (xs ys : List ℕ) (word more length : ℕ) → 28 ≤ length → length ≤ 31 → ys ≡ set_of days_of_month (λ x. has_bit more (x - 1))
    → set_of days_of_month (λ x. has_bit word (x - 1)) ≡ xs → ((k : ℕ) → has_bit more k ≡ (has_bit word k || nat_eq k (length - 1))) → (d : ℕ)
    → contains ys d ≡ (contains xs d || nat_eq d length)
marked_days xs ys word more length low high made from bits d =
    rw (made, ← from) (elim (cases_lt d 1) [
      | inl l ↦ rw (contains_before days_of_month (λ x. has_bit more (x - 1)) d l, contains_before days_of_month (λ x. has_bit word (x - 1)) d l)
          (sym (ne_eqb d length (λ e. omega arith)))
      | inr g ↦ elim (cases_lt 31 d) [
        | inl l ↦ rw (
          contains_after days_of_month (λ x. has_bit more (x - 1)) d (omega arith) l,
          contains_after days_of_month (λ x. has_bit word (x - 1)) d (omega arith) l,
        ) (sym (ne_eqb d length (λ e. omega arith)))
        | inr h ↦ contains_set days_of_month (λ x. has_bit more (x - 1)) d g h
            ∙ (bits (d - 1)
            ∙ (ap (λ (b : Bool). b || nat_eq (d - 1) (length - 1)) (sym (contains_set days_of_month (λ x. has_bit word (x - 1)) d g h))
            ∙ ap (λ (b : Bool). contains (set_of days_of_month (λ x. has_bit word (x - 1))) d || b) (same_place d length g (omega arith))))
      ]
    ])
