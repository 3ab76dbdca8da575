-- The cells of a text, which is cut at a byte.
use Rattle.std.specs.Prelude.{ℕ, ◌==◌, List, [], Option, Some, None, map}
use Rattle.std.specs.Borrow.{Bor}
use Rattle.std.specs.List.{slice_split}
use Rattle.std.specs.Str.{trim}

-- the parts of a text, which is cut at each byte c
abbrev pub parts : ℕ → List ℕ → List (List ℕ)
parts c text = slice_split (λ b. b == c) text

-- the parts, without the white space around each
abbrev pub cells : ℕ → List ℕ → List (List ℕ)
cells c text = map trim (parts c text)

-- the parts of what is left of a text; none if nothing is left, not even an empty text
abbrev pub parts_left : ℕ → Option (Bor (List ℕ)) → List (List ℕ)
parts_left c None = []
parts_left c (Some rest) = parts c rest.now

abbrev pub cells_left : ℕ → Option (Bor (List ℕ)) → List (List ℕ)
cells_left c rest = map trim (parts_left c rest)
