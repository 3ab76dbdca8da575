-- The lines of those items of a list that have a property.
use Rattle.std.specs.Prelude.{◌≡◌, ◌⊎◌, ◌++◌, ℕ, List, [], ◌∷◌}

-- the text is the lines of those items of a list that have the property `has`, in the list's order
abbrev pub TellsThose : {A : Type 0} → (A → Type 0) → (A → List ℕ) → List A → List ℕ → Type 0
TellsThose has line [] text = text ≡ []
TellsThose has line (x ∷ xs) text =
    (has x × ((rest : List ℕ) × (text ≡ line x ++ rest) × TellsThose has line xs rest))
    ⊎ ((has x → ⊥) × TellsThose has line xs text)
