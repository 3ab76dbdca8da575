-- Lists that are made by appending.
use Rattle.std.specs.Prelude.{◌≡◌, ◌++◌, List}

-- a list with a property was appended
abbrev pub Appends : {A : Type 0} → (List A → Type 0) → List A → List A → Type 0
Appends {A} P old new = (more : List A) × (new ≡ old ++ more) × P more
