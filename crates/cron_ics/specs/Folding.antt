-- Lines of a calendar, folded: a long one is written in pieces, with a line end and a space before
-- each but the first. Texts are lists of bytes.
use Rattle.std.specs.Prelude.{◌≡◌, ◌≤◌, ℕ, ◌+◌, ◌==◌, ◌&&◌, ◌||◌, not, nat_le, nat_lt, Bool, false, List, [], ◌∷◌, ◌++◌, length, if◌then◌else◌}
use Rattle.std.specs.Str.{IsUtf8}

abbrev pub line_end : List ℕ
line_end = 13 ∷ 10 ∷ []

-- whether a byte is within a character of UTF-8, and doesn't begin one
abbrev pub is_inside : ℕ → Bool
is_inside b = nat_le 128 b && nat_lt b 192

-- whether a piece of k bytes ends before the byte b: it has 71 or more, so that a character of four
-- may have no room
abbrev pub breaks : ℕ → ℕ → Bool
breaks k b = nat_le 71 k && not (is_inside b)

abbrev pub folded_byte : ℕ → ℕ → List ℕ
folded_byte k b = if breaks k b then 13 ∷ 10 ∷ 32 ∷ b ∷ [] else b ∷ []

abbrev pub next_column : ℕ → ℕ → ℕ
next_column k b = if breaks k b then 1 else k + 1

-- the rest of a line, as it is written after k bytes of a piece
abbrev pub folded_from : ℕ → List ℕ → List ℕ
folded_from k [] = line_end
folded_from k (b ∷ bs) = folded_byte k b ++ folded_from (next_column k b) bs

-- a line as it is written, with its line end
abbrev pub folded : List ℕ → List ℕ
folded line = folded_from 0 line

-- ---- what a folded line is, in a reader's words

-- The text is the line in these pieces and one more. No piece cuts a character, so each is UTF-8,
-- and each has at most 74 octets: 75 with the space before it.
abbrev pub FoldsInto : List (List ℕ) → List ℕ → List ℕ → Type 0
FoldsInto [] line text = (length line ≤ 74) × IsUtf8 line × (text ≡ line ++ line_end)
FoldsInto (piece ∷ pieces) line text =
    (length piece ≤ 74) × IsUtf8 piece
    × ((rest : List ℕ) × (after : List ℕ) × (line ≡ piece ++ rest) × (text ≡ piece ++ 13 ∷ 10 ∷ 32 ∷ after) × FoldsInto pieces rest after)

abbrev pub IsFolded : List ℕ → List ℕ → Type 0
IsFolded line text = (pieces : List (List ℕ)) × FoldsInto pieces line text

abbrev pub is_blank : ℕ → Bool
is_blank b = b == 32 || b == 9

-- the text as a reader unfolds it: each line end that a blank follows is removed, and so is that
-- blank
abbrev pub unfolded : List ℕ → List ℕ
unfolded [] = []
unfolded (a ∷ []) = a ∷ []
unfolded (a ∷ b ∷ []) = a ∷ b ∷ []
unfolded (a ∷ b ∷ c ∷ rest) = if a == 13 && (b == 10 && is_blank c) then unfolded rest else a ∷ unfolded (b ∷ c ∷ rest)

-- no byte of the line is a carriage return
abbrev pub HasNoReturn : List ℕ → Type 0
HasNoReturn [] = Unit {0}
HasNoReturn (b ∷ bs) = ((b == 13) ≡ false) × HasNoReturn bs
