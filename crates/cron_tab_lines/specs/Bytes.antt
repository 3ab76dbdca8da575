-- Bytes by their class, and texts cut after those of one class.
use Rattle.std.specs.Prelude.{ℕ, Bool, not, ◌==◌, ◌&&◌, ◌||◌, nat_le, List, drop, slice_index}
use Rattle.std.specs.List.{prefix_len}

-- space and tab
abbrev pub is_blank : ℕ → Bool
is_blank c = c == 32 || c == 9

-- a byte that a word may have: no space and no tab
abbrev pub no_blank : ℕ → Bool
no_blank c = not (is_blank c)

-- white space as C's `isspace` has it: a space, and the bytes 9 to 13
abbrev pub is_white : ℕ → Bool
is_white c = c == 32 || (nat_le 9 c && nat_le c 13)

-- a byte that a bare name may have: no white space and no `=`
abbrev pub in_name : ℕ → Bool
in_name c = not (is_white c || c == 61)

-- `'` and `"`
abbrev pub is_quote : ℕ → Bool
is_quote c = c == 39 || c == 34

-- a byte that a value may have between quotation marks: all but the mark
abbrev pub in_quotes : ℕ → ℕ → Bool
in_quotes mark c = not (c == mark)

-- a byte that a name may have between quotation marks: all but the mark and `=`
abbrev pub in_quoted_name : ℕ → ℕ → Bool
in_quoted_name mark c = not (c == mark || c == 61)

-- a byte that fields may have: ASCII that prints, or a tab
abbrev pub is_plain : ℕ → Bool
is_plain c = c == 9 || (nat_le 32 c && nat_le c 126)

-- the rest of a text after the bytes of a class at its front
abbrev pub behind : (ℕ → Bool) → List ℕ → List ℕ
behind class text = drop (prefix_len class text) text

abbrev pub first : List ℕ → ℕ
first text = slice_index text 0
