-- Words that are read as keys.
use Rattle.std.proofs.Common.{◌≡◌, ℕ, ◌+◌, ◌-◌, ◌<◌, ◌≤◌, true, false, List, [], ◌∷◌, ◌++◌, length, get_or, take, drop, sym, ap, ◌∙◌, subst, arith}
use Rattle.std.proofs.lemmas.List.{get_or-drop, length-drop, take_more}
use Rattle.std.specs.List.{slice_range}
use Rattle.cron_units.specs.Keys.{IsKey}
use Rattle.cron_units.proofs.KeyLemmas.{key_none}
use Rattle.cron_text.specs.Inner.PlainReading.{IsWordAt}
use Rattle.cron_text.specs.Tokens.{is_letter}
use Rattle.cron_text.proofs.Places.{letters_between, letters_token, word_symbol}

-- the bytes between two indices, with one more
slice_more : (text : List ℕ) (at end : ℕ) → at ≤ end → end < length text → slice_range text at (end + 1) ≡ slice_range text at end ++ get_or text end 0 ∷ []
slice_more text at end a l =
    let count : (end + 1) - at ≡ (end - at) + 1 = omega (arith, a) in
    let place : at + (end - at) ≡ end = omega (arith, a) in
    let same : get_or (drop at text) (end - at) 0 ≡ get_or text end 0 = get_or-drop at text (end - at) 0 ∙ ap (λ k. get_or text k 0) place in
    let long : end - at < length (drop at text) = rw (length-drop at text) (omega (arith, a, l)) in
    ap (λ k. take k (drop at text)) count
    ∙ (take_more (drop at text) (end - at) 0 long ∙ ap (λ c. slice_range text at end ++ c ∷ []) same)

slice_none : (text : List ℕ) (at : ℕ) → slice_range text at at ≡ []
slice_none text at = let none : at - at ≡ 0 = omega arith in ap (λ n. take n (drop at text)) none

-- the key of a first letter
pub key_first : (text : List ℕ) (at key : ℕ) → at < length text → ((name : List ℕ) → IsKey name 0 → IsKey (name ++ get_or text at 0 ∷ []) key)
    → IsKey (slice_range text at (at + 1)) key
key_first text at key l with_first =
    let is : slice_range text at (at + 1) ≡ get_or text at 0 ∷ [] = slice_more text at at (omega arith) l
    ∙ ap (λ (xs : List ℕ). xs ++ get_or text at 0 ∷ []) (slice_none text at) in
    subst (λ (xs : List ℕ). IsKey xs key) (sym is) (with_first [] key_none)

-- the key of one letter more
pub key_next : (text : List ℕ) (at end old key : ℕ) → at ≤ end → end < length text → IsKey (slice_range text at end) old
    → ((name : List ℕ) → IsKey name old → IsKey (name ++ get_or text end 0 ∷ []) key) → IsKey (slice_range text at (end + 1)) key
key_next text at end old key a l is with_next =
    subst (λ (xs : List ℕ). IsKey xs key) (sym (slice_more text at end a l)) (with_next (slice_range text at end) is)

pub word_here : (text : List ℕ) (at end key : ℕ) → at < length text → is_letter (get_or text at 0) ≡ true → end ≤ length text → at + 1 ≤ end
    → ((k : ℕ) → at + 1 ≤ k → k < end → is_letter (get_or text k 0) ≡ true) → (end < length text → is_letter (get_or text end 0) ≡ false)
    → IsKey (slice_range text at end) key → IsWordAt text at key end
word_here text at end key l d w a b e is = record {
  name = slice_range text at end;
  letters = letters_between text at end d w a b;
  keyed = is;
  symbol = record {
    further = omega (arith, a);
    within = w;
    seen = word_symbol text at end l d w a b;
    rest = letters_token text at end l d w a b e;
  };
}
