-- Lists that ascend by a key.
use Rattle.std.specs.Prelude.{◌≡◌, ℕ, ◌<◌, List, [], ◌∷◌, Some, slice_get}

-- the key of each element is less than the keys of those after it
abbrev pub Ascends : {A : Type 0} → (A → ℕ) → List A → Type 0
Ascends key [] = Unit {0}
Ascends {A} key (x ∷ l) = ((y : A) → ((i : ℕ) × (slice_get l i ≡ Some y)) → key x < key y) × Ascends key l
