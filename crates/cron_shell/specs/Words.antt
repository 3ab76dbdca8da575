-- Which text a POSIX shell takes a word for that is made of single quotes and backslashes.
use Rattle.std.specs.Prelude.{◌≡◌, ◌++◌, ◌==◌, ℕ, List, [], ◌∷◌, Option, Some, None, if◌then◌else◌}

-- where a reader of a word is: outside of quotes, within them, or after a backslash outside of them
pub data Place : Type 0 where
  outside : Place
  within : Place
  behind_backslash : Place

abbrev pub with_byte : ℕ → Option (List ℕ) → Option (List ℕ)
with_byte c None = None
with_byte c (Some text) = Some (c ∷ text)

-- The text that the rest of a word is taken for. Within quotes each byte is itself, up to the next
-- quote. Outside, a quote opens, and a backslash keeps the byte after it, unless that is a line
-- feed. `None` for a word with anything else, or with open quotes.
abbrev pub taken_for : Place → List ℕ → Option (List ℕ)
taken_for outside [] = Some []
taken_for within [] = None
taken_for behind_backslash [] = None
taken_for outside (c ∷ cs) = if c == 39 then taken_for within cs else if c == 92 then taken_for behind_backslash cs else None
taken_for within (c ∷ cs) = if c == 39 then taken_for outside cs else with_byte c (taken_for within cs)
taken_for behind_backslash (c ∷ cs) = if c == 10 then None else with_byte c (taken_for outside cs)

-- a shell takes the word for this text, byte for byte
abbrev pub IsTakenFor : List ℕ → List ℕ → Type 0
IsTakenFor text word = taken_for outside word ≡ Some text

-- a word that a shell takes for this text, with a blank in front
abbrev pub IsWord : List ℕ → List ℕ → Type 0
IsWord text line = (word : List ℕ) × (line ≡ 32 ∷ word) × IsTakenFor text word

-- a blank and a word that a shell takes for this text were appended
abbrev pub PushesWord : List ℕ → List ℕ → List ℕ → Type 0
PushesWord text old new = (word : List ℕ) × (new ≡ old ++ 32 ∷ word) × IsTakenFor text word

-- words that a shell takes for these texts, each with a blank in front
abbrev pub AreWords : List (List ℕ) → List ℕ → Type 0
AreWords [] line = line ≡ []
AreWords (text ∷ texts) line =
    (word : List ℕ) × (rest : List ℕ) × (line ≡ 32 ∷ (word ++ rest)) × IsTakenFor text word × AreWords texts rest
