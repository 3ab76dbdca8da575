-- Names of the time zone database.
use Rattle.std.specs.Prelude.{◌&&◌, ◌||◌, ◌==◌, ℕ, Bool, true, false, not, nat_le, List, [], ◌∷◌, codes, take}
use Rattle.std.specs.Str.{bytes_eq}

abbrev pub is_between : ℕ → ℕ → ℕ → Bool
is_between least greatest b = nat_le least b && nat_le b greatest

-- a byte that a name may have: a letter, a digit, or one of `+-_./`
abbrev pub is_name_byte : ℕ → Bool
is_name_byte b =
    is_between 65 90 b || is_between 97 122 b || is_between 48 57 b || b == 43 || b == 45 || b == 95 || b == 46 || b == 47

-- The byte b may follow the byte `before` in a name: a piece between slashes isn't empty, and
-- doesn't begin with a dot.
abbrev pub stands_behind : ℕ → ℕ → Bool
stands_behind before b = is_name_byte b && not (before == 47 && (b == 47 || b == 46))

-- Each byte may follow the one before it, where `before` comes before the first, and the last byte
-- is no slash.
unfoldable pub pieces_fit : ℕ → List ℕ → Bool
pieces_fit before [] = not (before == 47)
pieces_fit before (b ∷ bs) = stands_behind before b && pieces_fit b bs

-- A name of a zone: each of its pieces between slashes fits, and it doesn't begin with `right/`.
abbrev pub is_zone_name : List ℕ → Bool
is_zone_name name = pieces_fit 47 name && not (bytes_eq (take 6 name) (codes "right/"))
