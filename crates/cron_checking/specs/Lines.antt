-- The lines of a file, and which of them have no report. Texts are lists of bytes.
use Rattle.std.specs.Prelude.{◌≡◌, ◌==◌, ℕ, Bool, true, List, [], ◌∷◌, ◌++◌, ◌⊎◌, Option, IfSome, if◌then◌else◌}
use Rattle.std.specs.Io.KnownBytes.{IsAtEnd}
use Rattle.cron_text.specs.Tokens.{is_space}

-- the lines with a byte put before the first one
abbrev pub onto_first : ℕ → List (List ℕ) → List (List ℕ)
onto_first c [] = (c ∷ []) ∷ []
onto_first c (line ∷ lines) = (c ∷ line) ∷ lines

-- The lines of a text. A line feed ends a line, and the last line may lack it.
unfoldable pub lines_of : List ℕ → List (List ℕ)
lines_of [] = []
lines_of (c ∷ cs) = if c == 10 then [] ∷ lines_of cs else onto_first c (lines_of cs)

-- whether a line is white space alone, or a comment: `#` comes before anything else
unfoldable pub is_passed_over : List ℕ → Bool
is_passed_over [] = true
is_passed_over (c ∷ cs) = if is_space c then is_passed_over cs else c == 35

-- the reader's bytes are known, and none of them is left
abbrev pub IsReadThrough : Option (List ℕ) → Option (List ℕ) → Type 0
IsReadThrough given left = IfSome given (λ _. IsAtEnd left)

-- the bytes are these lines, each with the line feed that ends it: what comes next begins a line
abbrev pub AreEnded : List ℕ → List (List ℕ) → Type 0
AreEnded bytes lines = (more : List ℕ) → lines_of (bytes ++ more) ≡ lines ++ lines_of more

-- the bytes are these lines, and none of them is cut off: the last one has its line feed too, or no byte comes after it
abbrev pub AreWhole : Option (List ℕ) → Option (List ℕ) → List ℕ → List (List ℕ) → Type 0
AreWhole given left bytes lines = (lines_of bytes ≡ lines) × (AreEnded bytes lines ⊎ IsReadThrough given left)
