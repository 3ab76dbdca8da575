-- How a reader splits a calendar into lines.
use Rattle.std.specs.Prelude.{◌≡◌, ℕ, ◌==◌, ◌&&◌, false, List, [], ◌∷◌, ◌++◌, if◌then◌else◌}
use Rattle.cron_ics.specs.Events.{folded_lines}
use Rattle.cron_ics.specs.Folding.{HasNoReturn, is_blank, unfolded}

-- The lines of an unfolded text: each is ended by a carriage return and a line feed. The bytes
-- `line` of the first one were read before.
abbrev pub lines_from : List ℕ → List ℕ → List (List ℕ)
lines_from line [] = []
lines_from line (a ∷ []) = []
lines_from line (a ∷ b ∷ rest) = if a == 13 && b == 10 then line ∷ lines_from [] rest else lines_from (line ++ a ∷ []) (b ∷ rest)

abbrev pub read_lines : List ℕ → List (List ℕ)
read_lines text = lines_from [] (unfolded text)

-- a line begins with no blank, and has no carriage return
abbrev pub IsLine : List ℕ → Type 0
IsLine [] = ⊥
IsLine (b ∷ bs) = (is_blank b ≡ false) × HasNoReturn (b ∷ bs)

abbrev pub AreLines : List (List ℕ) → Type 0
AreLines [] = Unit {0}
AreLines (line ∷ lines) = IsLine line × AreLines lines

-- lines that are folded one after another read back unchanged
abbrev pub LinesReadBack : Type 0
LinesReadBack = (lines : List (List ℕ)) → AreLines lines → read_lines (folded_lines lines) ≡ lines
