-- Bytes with U+FFFD for what is no UTF-8 are a text.
use Rattle.std.proofs.Common.{◌≡◌, ℕ, zero, suc, ◌+◌, ◌<◌, ◌≤◌, ◌==◌, nat_lt, List, [], ◌∷◌, length, IsUtf8, Option, Some, None, take, take_all, drop, inl, inr, refl, sym, ap, ◌∙◌, subst, arith, length-drop, slice_index}
use Rattle.std.specs.Prelude.{unwrap_or}
use Rattle.std.proofs.lemmas.Bool.{cases_eq, cond_both}
use Rattle.std.proofs.lemmas.Str.{IsUtf8-append, IsUtf8-encode, IsUtf8-from_is_utf8, IsUtf8-nil, utf8_lossy-IsUtf8, utf8_lossy_empty, utf8_lossy_step, utf8_valid_len_le}
use Rattle.std.specs.Int.{is_in_range}
use Rattle.std.specs.Str.{is_utf8}
use Rattle.std.specs.Str.Lossy.{after_first_chunk, error_len_after_one, error_len_after_two, error_len_of_some, second_byte_max, second_byte_min, utf8_error_len, utf8_invalid_len, utf8_lossy, utf8_valid_len, valid_len_up_to}
use lib.Utf8.{encode}

front_is_text : (bs : List ℕ) (n : ℕ) → IsUtf8 (take (valid_len_up_to bs n) bs)
front_is_text bs zero = IsUtf8-nil
front_is_text bs (suc n) =
    cond_both (is_utf8 (take (suc n) bs)) (suc n) (valid_len_up_to bs n) (λ k. IsUtf8 (take k bs)) (λ it. IsUtf8-from_is_utf8 (take (suc n) bs) it)
    (λ other. front_is_text bs n)

valid_is_text : (bs : List ℕ) → IsUtf8 (take (utf8_valid_len bs) bs)
unfolding utf8_valid_len
valid_is_text bs = front_is_text bs (length bs)

pub replacement_is_text : IsUtf8 (239 ∷ 191 ∷ 189 ∷ [])
unfolding encode
replacement_is_text = IsUtf8-encode 65533 refl

-- so many bytes are no text, of some bytes
abbrev IsSome : List ℕ → Option ℕ → Type 0
IsSome x len = 1 ≤ unwrap_or len (length x)

after_two : (x : List ℕ) → 0 < length x → IsSome x (error_len_after_two x)
after_two x some =
    cond_both (nat_lt (length x) 3) None _ (IsSome x) (λ a. some)
    (λ a. cond_both (is_in_range 0x80 0xBF (slice_index x 2)) _ (Some 2) (IsSome x)
    (λ b. cond_both (nat_lt (length x) 4) None (Some 3) (IsSome x) (λ c. some) (λ c. omega arith)) (λ b. omega arith))

after_one : (x : List ℕ) → 0 < length x → IsSome x (error_len_after_one x)
after_one x some =
    cond_both (nat_lt (length x) 2) None _ (IsSome x) (λ a. some)
    (λ a. cond_both (is_in_range (second_byte_min (slice_index x 0)) (second_byte_max (slice_index x 0)) (slice_index x 1)) (error_len_after_two x) (Some 1)
    (IsSome x) (λ b. after_two x some) (λ b. omega arith))

invalid : (x : List ℕ) → 0 < length x → 1 ≤ utf8_invalid_len x
unfolding utf8_error_len
invalid x some =
    cond_both (length x == 0) None (error_len_of_some x) (IsSome x) (λ a. some)
    (λ a. cond_both (is_in_range 0xC2 0xF4 (slice_index x 0)) (error_len_after_one x) (Some 1) (IsSome x) (λ b. after_one x some) (λ b. omega arith))

shorter : (bs : List ℕ) → ¬ (utf8_valid_len bs ≡ length bs) → length (after_first_chunk bs) < length bs
shorter bs faulty =
    let n = utf8_valid_len bs in
    let low = utf8_valid_len_le bs in
    let left : 0 < length (drop n bs) = omega (arith, low, faulty, length-drop n bs) in
    let some = invalid (drop n bs) left in
    omega (arith, low, some, left, length-drop n bs, length-drop (n + utf8_invalid_len (drop n bs)) bs)

pub lossy_is_text : (k : ℕ) (bs : List ℕ) → length bs ≤ k → IsUtf8 (utf8_lossy bs)
lossy_is_text zero bs few = subst IsUtf8 (sym (utf8_lossy_empty bs (omega arith))) IsUtf8-nil
lossy_is_text (suc k) bs few = elim (cases_eq (utf8_valid_len bs) (length bs)) [
  | inl whole ↦
      let text : IsUtf8 bs = subst IsUtf8 (ap (λ n. take n bs) whole ∙ take_all (length bs) bs (omega arith)) (valid_is_text bs) in
      subst IsUtf8 (sym (utf8_lossy-IsUtf8 bs text)) text
  | inr faulty ↦
      subst IsUtf8 (sym (utf8_lossy_step bs faulty))
      (IsUtf8-append _ _ (valid_is_text bs)
      (IsUtf8-append _ _ replacement_is_text (lossy_is_text k (after_first_chunk bs) (omega (arith, shorter bs faulty)))))
]
