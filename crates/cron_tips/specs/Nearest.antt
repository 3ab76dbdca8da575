-- Which name is nearest to a word.
use Rattle.std.specs.Prelude.{◌<◌, ◌≤◌, ◌+◌, ◌/◌, ℕ, nat_lt, List, Option, Some, None, length, map, get_or, if◌then◌else◌}
use Rattle.std.specs.Char.{to_ascii_lowercase}
use Rattle.std.specs.Str.{chars}
use Rattle.strsim.specs.Edits.{osa_table}

-- a text in small letters, as its characters
abbrev pub small : List ℕ → List ℕ
small text = chars (map to_ascii_lowercase text)

-- The number of edits that make a word a name, in any case of ASCII letters. An edit inserts,
-- removes or replaces a letter, or swaps two neighbours.
abbrev pub distance : List ℕ → List ℕ → ℕ
distance word name = (osa_table (small word) (small name)).last_row (length (small name))

-- The number of edits that is too many for a word: more than one for each three bytes. No number
-- is few enough for a word of more than 64 bytes.
abbrev pub reach : List ℕ → ℕ
reach word = if nat_lt 64 (length word) then 0 else length word / 3 + 1

-- the place of the first of the least of these numbers, if that is less than `end`
abbrev pub IsFirstLeast : ℕ → List ℕ → Option ℕ → Type 0
IsFirstLeast end numbers None = (k : ℕ) → k < length numbers → end ≤ get_or numbers k 0
IsFirstLeast end numbers (Some at) =
    (at < length numbers) × (get_or numbers at 0 < end)
    × ((k : ℕ) → k < length numbers → get_or numbers at 0 ≤ get_or numbers k 0)
    × ((k : ℕ) → k < at → get_or numbers at 0 < get_or numbers k 0)

-- how many edits make a word each of these names
abbrev pub distances : List ℕ → List (List ℕ) → List ℕ
distances word names = map (distance word) names
