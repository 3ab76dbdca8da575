-- Windows of jiff's rules: whether a moment lies in one.
use Rattle.std.proofs.Common.{◌≡◌, Bool, true, false, not, ◌&&◌, ◌⊎◌, inl, inr, ℤ, ◌≤ℤ◌, ◌<ℤ◌, int_le, int_lt, refl}
use Rattle.std.proofs.lemmas.Int.{ints, by_lt_z}
use Rattle.std.proofs.Common.{arith}
use Rattle.jiff_tz.specs.PosixRule.{in_window, in_span}

pub le_yes : (a b : ℤ) → a ≤ℤ b → int_le a b ≡ true
le_yes a b h = grind (arith, ints)

pub le_no : (a b : ℤ) → b <ℤ a → int_le a b ≡ false
le_no a b h = grind (arith, ints)

pub lt_yes : (a b : ℤ) → a <ℤ b → int_lt a b ≡ true
lt_yes a b h = grind (arith, ints)

pub lt_no : (a b : ℤ) → b ≤ℤ a → int_lt a b ≡ false
lt_no a b h = grind (arith, ints)

-- ---- from the numbers to the test

pub span_inside : (a b n : ℤ) → a ≤ℤ n → n <ℤ b → in_span a b n ≡ true
span_inside a b n low high = rw (le_yes a n low, lt_yes n b high) refl

pub span_early : (a b n : ℤ) → n <ℤ a → in_span a b n ≡ false
span_early a b n early = rw (le_no a n early) refl

and_false : (p : Bool) → (p && false) ≡ false
and_false true = refl
and_false false = refl

pub span_late : (a b n : ℤ) → b ≤ℤ n → in_span a b n ≡ false
span_late a b n late = rw (lt_no n b late) (and_false (int_le a n))

-- ---- and back

pub inside_span : (a b n : ℤ) → in_span a b n ≡ true → (a ≤ℤ n) × (n <ℤ b)
inside_span a b n h =
    by_lt_z n a
    (λ early. absurd (cc_of (span_early a b n early)))
    (λ low. by_lt_z n b (λ high. (low, high)) (λ late. absurd (cc_of (span_late a b n late))))
  where
    cc_of : in_span a b n ≡ false → ⊥
    cc_of e = cc

pub outside_span : (a b n : ℤ) → in_span a b n ≡ false → (n <ℤ a) ⊎ (b ≤ℤ n)
outside_span a b n h =
    by_lt_z n a inl
    (λ low. by_lt_z n b (λ high. absurd (cc_of (span_inside a b n low high))) inr)
  where
    cc_of : in_span a b n ≡ true → ⊥
    cc_of e = cc

-- ---- windows are spans, or what lies outside one

pub window_in_order : (start end n : ℤ) → start ≤ℤ end → in_window (start, end) n ≡ in_span start end n
window_in_order start end n h = rw (le_yes start end h) refl

pub window_turned : (start end n : ℤ) → end <ℤ start → in_window (start, end) n ≡ not (in_span end start n)
window_turned start end n h = rw (le_no start end h) refl
