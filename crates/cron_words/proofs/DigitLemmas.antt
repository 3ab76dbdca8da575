-- Texts of digits are told apart, and what stands behind them.
use Rattle.std.proofs.Common.{◌≡◌, ◌==◌, ◌<◌, ◌^◌, ℕ, Bool, true, false, ◌||◌, List, [], ◌∷◌, ◌++◌, drop, get_or, length, refl, sym, ap, ◌∙◌, arith}
use Rattle.std.proofs.lemmas.Bool.{false≢true}
use Rattle.std.proofs.lemmas.Fmt.{decimal_is_IsNumeral}
use Rattle.std.specs.Fmt.{decimal}
use Rattle.std.specs.List.{list_all}
use Rattle.cron_canonical.proofs.ShortTokens.{all_digits}
use Rattle.cron_text.specs.Tokens.{is_digit, is_letter}

abbrev pub heads : (ℕ → Bool) → List ℕ → Bool
heads p [] = false
heads p (c ∷ cs) = p c

pub all_first : (p : ℕ → Bool) (c : ℕ) (cs : List ℕ) → list_all p (c ∷ cs) ≡ true → p c ≡ true
all_first p c cs h = by_test (p c) refl where
  by_test : (b : Bool) → p c ≡ b → p c ≡ true
  by_test true e = e
  by_test false e = absurd (false≢true (rw e at h))

pub all_rest : (p : ℕ → Bool) (c : ℕ) (cs : List ℕ) → list_all p (c ∷ cs) ≡ true → list_all p cs ≡ true
all_rest p c cs h = rw (all_first p c cs h) at h

-- texts of bytes that pass a test, and behind each of them nothing, or a byte that doesn't
pub cut : (p : ℕ → Bool) (a b r s : List ℕ) → list_all p a ≡ true → list_all p b ≡ true → heads p r ≡ false → heads p s ≡ false
    → a ++ r ≡ b ++ s → (a ≡ b) × (r ≡ s)
cut p [] [] r s k l h g e = (refl, e)
cut p [] (d ∷ b) r s k l h g e = absurd (false≢true (sym h ∙ (ap (heads p) e ∙ all_first p d b l)))
cut p (c ∷ a) [] r s k l h g e = absurd (false≢true (sym g ∙ (ap (heads p) (sym e) ∙ all_first p c a k)))
cut p (c ∷ a) (d ∷ b) r s k l h g e =
    let first : c ≡ d = ap (λ (t : List ℕ). get_or t 0 0) e in
    let rest = cut p a b r s (all_rest p c a k) (all_rest p d b l) h g (ap (drop 1) e) in
    (rw (first, rest.0) refl, rest.1)

-- ---- bytes of names

-- a letter, a digit or a colon
abbrev pub is_word : ℕ → Bool
is_word c = is_digit c || (is_letter c || c == 58)

pub digits_are_word : (ds : List ℕ) → list_all is_digit ds ≡ true → list_all is_word ds ≡ true
digits_are_word [] h = refl
digits_are_word (c ∷ ds) h = rw (all_first is_digit c ds h, digits_are_word ds (all_rest is_digit c ds h)) refl

pub digit_first : (ds r : List ℕ) → 0 < length ds → list_all is_digit ds ≡ true → is_digit (get_or (ds ++ r) 0 0) ≡ true
digit_first [] r l h = absurd (omega arith)
digit_first (c ∷ ds) r l h = all_first is_digit c ds h

pub all_append : (p : ℕ → Bool) (a b : List ℕ) → list_all p a ≡ true → list_all p b ≡ true → list_all p (a ++ b) ≡ true
all_append p [] b h g = g
all_append p (c ∷ a) b h g = rw (all_first p c a h, all_append p a b (all_rest p c a h) g) refl

pub decimal_digits : (n : ℕ) → n < 2 ^ 32 → list_all is_digit (decimal n) ≡ true
decimal_digits n l = all_digits (decimal n) (decimal_is_IsNumeral n (omega arith)).0.1

pub decimal_first : (n : ℕ) (r : List ℕ) → n < 2 ^ 32 → is_digit (get_or (decimal n ++ r) 0 0) ≡ true
decimal_first n r l = digit_first (decimal n) r (decimal_is_IsNumeral n (omega arith)).0.0 (decimal_digits n l)
