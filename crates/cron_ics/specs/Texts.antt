-- Texts as values of a calendar: how they are escaped, and how a reader takes them.
use Rattle.std.specs.Prelude.{ℕ, ◌==◌, ◌&&◌, ◌||◌, not, nat_lt, Bool, List, [], ◌∷◌, if◌then◌else◌}
use Rattle.std.specs.List.{flat_map}

-- whether a byte is a control character other than a tab and a line feed: no value may hold one
abbrev pub is_control : ℕ → Bool
is_control b = (nat_lt b 32 && not (b == 9 || b == 10)) || b == 127

-- a byte, or the bytes of U+FFFD in place of a control character
abbrev pub shown_byte : ℕ → List ℕ
shown_byte b = if is_control b then 239 ∷ 191 ∷ 189 ∷ [] else b ∷ []

abbrev pub shown : List ℕ → List ℕ
shown text = flat_map shown_byte text

-- a byte as it is escaped: a backslash precedes a backslash, a semicolon or a comma, and a line
-- feed is `\n`
abbrev pub escaped_byte : ℕ → List ℕ
escaped_byte b = if b == 10 then 92 ∷ 110 ∷ [] else (if b == 92 || (b == 59 || b == 44) then 92 ∷ b ∷ [] else b ∷ [])

abbrev pub escaped : List ℕ → List ℕ
escaped text = flat_map escaped_byte text

-- what a byte after a backslash means: a line feed for `n` or `N`, and else itself
abbrev pub meant : ℕ → ℕ
meant b = if b == 110 || b == 78 then 10 else b

-- the text as a reader takes a value: what is meant by each byte after a backslash, and all other
-- bytes unchanged
abbrev pub unescaped : List ℕ → List ℕ
unescaped [] = []
unescaped (b ∷ []) = b ∷ []
unescaped (b ∷ c ∷ rest) = if b == 92 then meant c ∷ unescaped rest else b ∷ unescaped (c ∷ rest)
