-- The names of an entry's files.
use Rattle.std.specs.Char.{is_ascii_alphanumeric}
use Rattle.std.specs.Prelude.{◌++◌, ◌==◌, ◌||◌, ℕ, Bool, List, [], ◌∷◌, Option, Some, None, codes, if◌then◌else◌, map, take, unwrap_or}
use Rattle.std.specs.Str.{bytes_eq}
use Rattle.hex.specs.Hex.{encode_lower}
use Rattle.sha2.specs.Sha256.{sha256}
use Rattle.cron_tab_lines.specs.Files.{without_feed}

-- the value of the last of these variables with the name, or `found` if none has it
abbrev pub value_in : List ℕ → Option (List ℕ) → List (List ℕ × List ℕ) → Option (List ℕ)
value_in name found [] = found
value_in name found (v ∷ vs) = value_in name (if bytes_eq v.0 name then Some v.1 else found) vs

-- a byte that a file's name keeps: letters and digits of ASCII, `-`, `.` and `_`
abbrev pub is_kept : ℕ → Bool
is_kept c = is_ascii_alphanumeric c || (c == 45) || (c == 46) || (c == 95)

-- the byte that a file's name has for c: `_` if it doesn't keep c
abbrev pub kept : ℕ → ℕ
kept c = if is_kept c then c else 95

-- the key of an entry, from which its digest is made: its zone as `CRON_TZ` names it, a tab, and
-- its line
abbrev pub known_by : List ℕ → List ℕ → List ℕ
known_by zone line = zone ++ 9 ∷ line

abbrev pub digest_text : List ℕ → List ℕ
digest_text text = encode_lower (take 8 (sha256 text))

-- the name of an entry's files without the ending: the front of its line, a dash, and the digest of
-- its key
abbrev pub name_of : List ℕ → List ℕ → List ℕ
name_of zone line = map kept (take 64 line) ++ 45 ∷ digest_text (known_by zone line)

abbrev pub file_within : List ℕ → List ℕ → List ℕ → List ℕ → List ℕ
file_within folder zone line ending = folder ++ 47 ∷ (name_of zone line ++ ending)

-- the path in a folder of the file with this ending that belongs to the entry of a line, where the
-- lines above set these variables
abbrev pub file_in : Option (List ℕ) → List (List ℕ × List ℕ) → List ℕ → List ℕ → Option (List ℕ)
file_in None vs line ending = None
file_in (Some folder) vs line ending = Some (file_within folder (unwrap_or (value_in (codes "CRON_TZ") None vs) []) (without_feed line) ending)
