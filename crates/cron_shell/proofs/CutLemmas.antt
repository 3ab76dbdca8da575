-- Lines of a text, cut one by one.
use Rattle.std.proofs.Common.{◌≡◌, ℕ, ◌<◌, Bool, true, false, List, [], ◌∷◌, length, take, drop, refl, ap, arith}
use Rattle.std.specs.Prelude.{suc, ◌==◌}
use Rattle.cron_shell.specs.Inner.Cuts.{front_len}
use Rattle.cron_shell.specs.Lines.{input_lines, onto_first}

-- the first line, and those behind it
pub first-line : (text : List ℕ) → 0 < length text → input_lines text ≡ take (front_len text) text ∷ input_lines (drop (suc (front_len text)) text)
first-line [] some = absurd (omega arith)
first-line (c ∷ []) some = by_test (c == 10) refl
  where
    by_test : (b : Bool) → (c == 10) ≡ b → input_lines (c ∷ []) ≡ take (front_len (c ∷ [])) (c ∷ []) ∷ input_lines (drop (suc (front_len (c ∷ []))) (c ∷ []))
    by_test true is = rw is refl
    by_test false is = rw is refl
first-line (c ∷ d ∷ cs) some = by_test (c == 10) refl (first-line (d ∷ cs) (omega arith))
  where
    by_test : (b : Bool) → (c == 10) ≡ b
        → input_lines (d ∷ cs) ≡ take (front_len (d ∷ cs)) (d ∷ cs) ∷ input_lines (drop (suc (front_len (d ∷ cs))) (d ∷ cs))
        → input_lines (c ∷ d ∷ cs) ≡ take (front_len (c ∷ d ∷ cs)) (c ∷ d ∷ cs) ∷ input_lines (drop (suc (front_len (c ∷ d ∷ cs))) (c ∷ d ∷ cs))
    by_test true is rest = rw is refl
    by_test false is rest = rw is (ap (onto_first c) rest)
