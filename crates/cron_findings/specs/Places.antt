-- Where a finding stands in its line.
use Rattle.std.specs.Prelude.{ℕ, zero, suc, ◌+◌, ◌-◌, ◌==◌, ◌&&◌, ◌||◌, nat_le, Bool, List, [], ◌∷◌, ◌++◌, length, map, take, drop, if◌then◌else◌}
use Rattle.std.specs.Str.{is_utf8}
use Rattle.cron_controls.specs.Controls.{is_control, shown_after}
use Rattle.std.specs.List.{flat_map}
use Rattle.cron_findings.specs.Findings.{Finding}

-- ---- characters

-- whether the first n bytes are there and are UTF-8
abbrev pub begins_with_text : ℕ → List ℕ → Bool
begins_with_text n bytes = nat_le n (length bytes) && is_utf8 (take n bytes)

-- how many bytes the character at the front has: the least number of bytes, up to 4, that are
-- UTF-8, or 1 if none is
abbrev pub front_len : List ℕ → ℕ
front_len bytes =
    if begins_with_text 1 bytes then 1
    else if begins_with_text 2 bytes then 2
    else if begins_with_text 3 bytes then 3
    else if begins_with_text 4 bytes then 4
    else 1

-- How many bytes of a character are left behind the first byte of `bytes`, where `left` of them
-- were left in front of it. If none was, a character begins here.
abbrev pub left_behind : ℕ → List ℕ → ℕ
left_behind zero bytes = front_len bytes - 1
left_behind (suc left) bytes = left

-- 1 for the first byte of a character
abbrev pub first_of : ℕ → ℕ
first_of zero = 1
first_of (suc left) = 0

-- how many characters begin in these bytes, of which `left` end the one before
abbrev pub characters_from : ℕ → List ℕ → ℕ
characters_from left [] = 0
characters_from left (c ∷ cs) = first_of left + characters_from (left_behind left (c ∷ cs)) cs

-- the number of characters, where each byte that is not of UTF-8 counts as one
abbrev pub characters : List ℕ → ℕ
characters bytes = characters_from 0 bytes

-- ---- places

abbrev pub before : Finding → List ℕ
before f = take f.start f.bytes

abbrev pub span : Finding → List ℕ
span f = drop f.start (take f.end f.bytes)

-- the column of the span's first character: the first of a line is 1
unfoldable pub column : Finding → ℕ
column f = characters (before f) + 1

-- the column behind the span's last character
unfoldable pub end_column : Finding → ℕ
end_column f = column f + characters (span f)

-- the column of the span's last character, or of its first if it has none
unfoldable pub last_column : Finding → ℕ
last_column f = column f + (characters (span f) - 1)

-- ---- a line on a terminal

-- a line feed as `\x0a`
abbrev pub feed_shown : ℕ → List ℕ
feed_shown c = if c == 10 then 92 ∷ 120 ∷ 48 ∷ 97 ∷ [] else c ∷ []

-- a text in one line: its control characters are shown, and its line feeds too
abbrev pub in_line : List ℕ → List ℕ
in_line bytes = flat_map feed_shown (shown_after 0 bytes)

abbrev pub spaces : ℕ → List ℕ
spaces zero = []
spaces (suc n) = 32 ∷ spaces n

-- What stands below a byte that follows the byte `previous`: a tab below a tab, four spaces below
-- one that is shown as `\x1b`, and a space below the first one of any other character.
abbrev pub blank : ℕ → ℕ → ℕ → List ℕ
blank previous left c =
    if c == 9 then 9 ∷ []
    else if is_control previous c || (c == 10) then spaces 4
    else spaces (first_of left)

abbrev pub blanks_from : ℕ → ℕ → List ℕ → List ℕ
blanks_from previous left [] = []
blanks_from previous left (c ∷ cs) = blank previous left c ++ blanks_from c (left_behind left (c ∷ cs)) cs

-- what stands below bytes
abbrev pub blanks : List ℕ → List ℕ
blanks bytes = blanks_from 0 0 bytes

-- the marks below a span: a caret, and a tilde for each further column
abbrev pub marks : List ℕ → List ℕ
marks bytes = 94 ∷ map (λ _. 126) (drop 1 (blanks bytes))
