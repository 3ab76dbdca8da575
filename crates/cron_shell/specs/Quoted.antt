-- How a text is quoted.
use Rattle.std.specs.Prelude.{◌++◌, ◌==◌, ℕ, List, [], ◌∷◌, if◌then◌else◌}
use Rattle.std.specs.List.{flat_map}

-- a byte between quotes: a quote closes them, stands escaped, and opens them again
abbrev pub escaped : ℕ → List ℕ
escaped c = if c == 39 then 39 ∷ 92 ∷ 39 ∷ 39 ∷ [] else c ∷ []

abbrev pub quoted : List ℕ → List ℕ
quoted text = 39 ∷ (flat_map escaped text ++ 39 ∷ [])

-- a quoted word for this text, with a blank in front
abbrev pub word : List ℕ → List ℕ
word text = 32 ∷ quoted text

-- quoted words for these texts, each with a blank in front
abbrev pub words : List (List ℕ) → List ℕ
words texts = flat_map (λ text. 32 ∷ quoted text) texts
