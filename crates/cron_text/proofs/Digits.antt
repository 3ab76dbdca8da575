-- Texts of digits.
use Rattle.std.proofs.Common.{◌≡◌, ℕ, ◌+◌, ◌-◌, ◌*◌, ◌<◌, ◌≤◌, true, List, drop, take, get_or, length, sym, ap, ◌∙◌, subst, arith, inl, inr}
use Rattle.std.proofs.lemmas.Bool.{cases_lt, lt-ltb, le-ltb}
use Rattle.std.proofs.lemmas.Int.Digits.{digits_value_more}
use Rattle.std.proofs.lemmas.List.{get_or-drop, length-drop}
use Rattle.std.specs.Char.{digit_value}
use Rattle.std.specs.List.{list_all, slice_range}
use Rattle.std.specs.Str.Parse.{digits_value}
use Rattle.cron_text.specs.Tokens.{number, is_digit, symbol_of}
use Rattle.cron_text.specs.Inner.Numbers.{IsCapped, number_symbol}
use Rattle.cron_text.specs.Inner.Places.{token_between}
use Rattle.cron_text.proofs.Places.{small_number, large_number}

-- what is true of each index up to one, and of that one, is true up to the next
pub one_more : (P : ℕ → Type 0) (from end : ℕ) → ((k : ℕ) → from ≤ k → k < end → P k) → P end → (k : ℕ) → from ≤ k → k < end + 1 → P k
one_more P from end f p k g l = elim (cases_lt k end) [
  | inl before ↦ f k g before
  | inr behind ↦ let same : end ≡ k = omega (arith, behind, l) in subst P same p
]

-- the digits between two indices, with one more
pub value_more : (text : List ℕ) (at end : ℕ) → at ≤ end → end < length text
    → digits_value 10 (slice_range text at (end + 1)) ≡ digits_value 10 (slice_range text at end) * 10 + digit_value (get_or text end 0)
value_more text at end a l =
    let count : (end + 1) - at ≡ (end - at) + 1 = omega (arith, a) in
    let place : at + (end - at) ≡ end = omega (arith, a) in
    let same : get_or (drop at text) (end - at) 0 ≡ get_or text end 0 = get_or-drop at text (end - at) 0 ∙ ap (λ k. get_or text k 0) place in
    let long : end - at < length (drop at text) = rw (length-drop at text) (omega (arith, a, l)) in
    ap (λ k. digits_value 10 (take k (drop at text))) count
    ∙ (digits_value_more 10 (drop at text) (end - at) long
    ∙ ap (λ c. digits_value 10 (slice_range text at end) * 10 + digit_value c) same)

-- what the grammar sees in digits
pub number_seen : (text : List ℕ) (at end : ℕ) → list_all is_digit (token_between text at end).text ≡ true
    → number_symbol (digits_value 10 (slice_range text at end)) ≡ symbol_of (token_between text at end)
number_seen text at end digits = elim (cases_lt (digits_value 10 (slice_range text at end)) 4294967296) [
  | inl small ↦ rw (lt-ltb (digits_value 10 (slice_range text at end)) 4294967296 small) (sym (small_number (slice_range text at end) digits small))
  | inr large ↦ rw (le-ltb (digits_value 10 (slice_range text at end)) 4294967296 large)
      (sym (large_number (slice_range text at end) digits (λ small. absurd (omega (arith, small, large)))))
]

-- a value that 32 bits hold is the number itself
pub small_seen : (n value : ℕ) → IsCapped n value → value < 4294967296 → number_symbol n ≡ number value
small_seen n value h l = elim (cases_lt n 4294967296) [
  | inl small ↦ rw (lt-ltb n 4294967296 small) (ap number (sym (h.same small)))
  | inr large ↦ absurd (omega (arith, l, h.past large))
]
