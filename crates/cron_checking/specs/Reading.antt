-- What a reader gives line by line.
use Rattle.std.specs.Prelude.{◌≡◌, ◌≤◌, ◌≢◌, ℕ, Bool, true, false, List, [], ◌∷◌, ◌++◌, Option, length}
use Rattle.std.specs.List.{AllByRecursion}
use Rattle.std.specs.Io.KnownBytes.{Consumes}
use Rattle.cron_checking.specs.Lines.{lines_of, IsReadThrough}
use Rattle.cron_checking.specs.declared.line_reader.Given.{Given}
use Rattle.cron_checking.specs.declared.line_reader.Given.TheVariants.{Line, End}

-- no byte of the line is a line feed
abbrev pub IsOneLine : List ℕ → Type 0
IsOneLine line = AllByRecursion (λ c. c ≢ 10) line

-- a line feed was removed from the end of a line, or there was none, as the flag says
abbrev pub IsCut : List ℕ → List ℕ → Bool → Type 0
IsCut old new true = (old ≡ new ++ 10 ∷ []) × IsOneLine new
IsCut old new false = (new ≡ old) × IsOneLine new

-- What one read of a line gave. The reader had the bytes `old` and has `new` left, if they are
-- known.
abbrev pub Gives : Option (List ℕ) → Option (List ℕ) → List ℕ → Given → Type 0
Gives old new line (Line last) =
    (piece : List ℕ) × Consumes old new piece × (lines_of piece ≡ line ∷ [])
    × (last ≡ false → (more : List ℕ) → lines_of (piece ++ more) ≡ line ∷ lines_of more) × (last ≡ true → IsReadThrough old new)
Gives old new line End = Consumes old new [] × IsReadThrough old new
Gives old new line _ = (piece : List ℕ) × Consumes old new piece × (length (lines_of piece) ≤ 1)
