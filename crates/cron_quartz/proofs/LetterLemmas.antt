-- Letters at the front and at the end of texts, and where a text may be cut beside them.
use Rattle.std.proofs.Common.{◌≡◌, ℕ, ◌-◌, ◌<◌, true, false, List, [], ◌∷◌, length, get_or, sym, ◌∙◌, arith}
use Rattle.std.specs.Char.{eq_ignore_ascii_case}
use Rattle.std.specs.Str.{IsUtf8, IsCharBoundary}
use Rattle.std.proofs.lemmas.Bool.{true≢false}
use Rattle.std.proofs.lemmas.Str.{IsCharBoundary-after_ascii, IsCharBoundary-before_ascii}
use Rattle.cron_quartz.specs.Quartz.{begins_with, ends_with}

pub no_letter : (letter : ℕ) → 0 < letter → eq_ignore_ascii_case 0 letter ≡ false
no_letter letter some = grind arith

letter_ascii : (c letter : ℕ) → letter < 128 → eq_ignore_ascii_case c letter ≡ true → c < 128
letter_ascii c letter low is = grind arith

pub none_begins : (letter : ℕ) (text : List ℕ) → 0 < letter → length text ≡ 0 → begins_with letter text ≡ false
none_begins letter [] some none = no_letter letter some
none_begins letter (c ∷ cs) some none = absurd (omega arith)

pub none_ends : (letter : ℕ) (text : List ℕ) → 0 < letter → length text ≡ 0 → ends_with letter text ≡ false
none_ends letter [] some none = no_letter letter some
none_ends letter (c ∷ cs) some none = absurd (omega arith)

-- a text may be cut behind a letter at its front
pub first_boundary : (letter : ℕ) (text : List ℕ) → IsUtf8 text → 0 < letter → letter < 128 → begins_with letter text ≡ true → IsCharBoundary text 1
first_boundary letter [] utf8 some low is = absurd (true≢false (sym is ∙ no_letter letter some))
first_boundary letter (c ∷ cs) utf8 some low is = IsCharBoundary-after_ascii (c ∷ cs) 0 utf8 (omega arith) (letter_ascii c letter low is)

-- and before a letter at its end
pub last_boundary : (letter : ℕ) (text : List ℕ) → 0 < letter → letter < 128 → ends_with letter text ≡ true → IsCharBoundary text (length text - 1)
last_boundary letter [] some low is = absurd (true≢false (sym is ∙ no_letter letter some))
last_boundary letter (c ∷ cs) some low is =
    IsCharBoundary-before_ascii (c ∷ cs) (length (c ∷ cs) - 1) (omega arith) (letter_ascii (get_or (c ∷ cs) (length (c ∷ cs) - 1) 0) letter low is)
