-- Texts that are made by appending.
use Rattle.std.specs.Prelude.{◌≡◌, ◌++◌, ℕ, List}

-- a text with the property `Tells` was appended
abbrev pub AppendsTold : (List ℕ → Type 0) → List ℕ → List ℕ → Type 0
AppendsTold Tells old new = (told : List ℕ) × (new ≡ old ++ told) × Tells told
