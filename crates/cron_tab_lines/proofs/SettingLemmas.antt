-- Texts without the white space at their end.
use Rattle.std.proofs.Common.{◌≡◌, ℕ, ◌+◌, ◌<◌, true, false, List, [], ◌∷◌, ◌++◌, length, take, get_or, refl, ap, sym, ◌∙◌, arith}
use Rattle.std.specs.Prelude.{◌&&◌}
use Rattle.std.specs.List.{list_all}
use Rattle.std.proofs.lemmas.List.{take_more}
use Rattle.cron_tab_lines.specs.Bytes.{is_white}
use Rattle.cron_tab_lines.specs.Settings.{trimmed}

all-white : (xs : List ℕ) (c : ℕ) → is_white c ≡ true → list_all is_white (xs ++ c ∷ []) ≡ list_all is_white xs
all-white [] c is = rw is refl
all-white (x ∷ xs) c is = ap (λ b. is_white x && b) (all-white xs c is)

all-other : (xs : List ℕ) (c : ℕ) → is_white c ≡ false → list_all is_white (xs ++ c ∷ []) ≡ false
all-other [] c is = rw is refl
all-other (x ∷ xs) c is = let rest = all-other xs c is in grind arith

-- white space behind a text doesn't count
trimmed-white : (xs : List ℕ) (c : ℕ) → is_white c ≡ true → trimmed (xs ++ c ∷ []) ≡ trimmed xs
trimmed-white [] c is = rw is refl
trimmed-white (x ∷ xs) c is = rw (all-white (x ∷ xs) c is, trimmed-white xs c is) refl

-- a text that ends in another byte stays whole
trimmed-other : (xs : List ℕ) (c : ℕ) → is_white c ≡ false → trimmed (xs ++ c ∷ []) ≡ xs ++ c ∷ []
trimmed-other [] c is = rw is refl
trimmed-other (x ∷ xs) c is = rw (all-other (x ∷ xs) c is, trimmed-other xs c is) refl

-- one byte more at the end
pub more-white : (text : List ℕ) (at end : ℕ) → at < length text → trimmed (take at text) ≡ take end text → is_white (get_or text at 0) ≡ true
    → trimmed (take (at + 1) text) ≡ take end text
more-white text at end lt kept is = ap trimmed (take_more text at 0 lt) ∙ trimmed-white (take at text) (get_or text at 0) is ∙ kept

pub more-other : (text : List ℕ) (at : ℕ) → at < length text → is_white (get_or text at 0) ≡ false → trimmed (take (at + 1) text) ≡ take (at + 1) text
more-other text at lt is = ap trimmed (take_more text at 0 lt) ∙ trimmed-other (take at text) (get_or text at 0) is ∙ sym (take_more text at 0 lt)
