-- Files cut in lines.
use Rattle.std.proofs.Common.{◌≡◌, ℕ, ◌+◌, ◌<◌, Bool, true, false, List, [], ◌∷◌, ◌++◌, length, take, drop, refl, ap, ◌∙◌, arith}
use Rattle.std.specs.Prelude.{◌==◌}
use Rattle.std.specs.List.{flat_map}
use Rattle.cron_tab_lines.specs.Files.{lines_of, numbered, with_byte, written_out}
use Rattle.cron_tab_lines.specs.Inner.Cuts.{line_len}
use Rattle.cron_tab_lines.specs.declared.kinds.Crontab.{Crontab}

-- the first line, and those behind it
pub first-line : (text : List ℕ) → 0 < length text → lines_of text ≡ take (line_len text) text ∷ lines_of (drop (line_len text) text)
first-line [] some = absurd (omega arith)
first-line (c ∷ []) some = by_test (c == 10) refl
  where
    by_test : (b : Bool) → (c == 10) ≡ b → lines_of (c ∷ []) ≡ take (line_len (c ∷ [])) (c ∷ []) ∷ lines_of (drop (line_len (c ∷ [])) (c ∷ []))
    by_test true is = rw is refl
    by_test false is = rw is refl
first-line (c ∷ d ∷ cs) some = by_test (c == 10) refl (first-line (d ∷ cs) (omega arith))
  where
    by_test : (b : Bool) → (c == 10) ≡ b → lines_of (d ∷ cs) ≡ take (line_len (d ∷ cs)) (d ∷ cs) ∷ lines_of (drop (line_len (d ∷ cs)) (d ∷ cs))
        → lines_of (c ∷ d ∷ cs) ≡ take (line_len (c ∷ d ∷ cs)) (c ∷ d ∷ cs) ∷ lines_of (drop (line_len (c ∷ d ∷ cs)) (c ∷ d ∷ cs))
    by_test true is rest = rw is refl
    by_test false is rest = rw is (ap (with_byte c) rest)

joined-with : (c : ℕ) (lines : List (List ℕ)) → flat_map (λ line. line) (with_byte c lines) ≡ c ∷ flat_map (λ line. line) lines
joined-with c [] = refl
joined-with c (line ∷ lines) = refl

joined-lines : (file : List ℕ) → flat_map (λ line. line) (lines_of file) ≡ file
joined-lines [] = refl
joined-lines (c ∷ cs) = by_test (c == 10) refl (joined-lines cs)
  where
    by_test : (b : Bool) → (c == 10) ≡ b → flat_map (λ line. line) (lines_of cs) ≡ cs → flat_map (λ line. line) (lines_of (c ∷ cs)) ≡ c ∷ cs
    by_test true is rest = rw is (ap (λ t. c ∷ t) rest)
    by_test false is rest = rw is (joined-with c (lines_of cs) ∙ ap (λ t. c ∷ t) rest)

joined-numbered : (kind : Crontab) (number : ℕ) (lines : List (List ℕ)) → written_out (numbered kind number lines) ≡ flat_map (λ line. line) lines
joined-numbered kind number [] = refl
joined-numbered kind number (line ∷ lines) = ap (λ t. line ++ t) (joined-numbered kind (number + 1) lines)

-- the lines one behind another are the file
pub written-file : (kind : Crontab) (number : ℕ) (file : List ℕ) → written_out (numbered kind number (lines_of file)) ≡ file
written-file kind number file = joined-numbered kind number (lines_of file) ∙ joined-lines file
