-- What is written into a caller's struct or array: `old` is what it held, and `new` what it holds.
-- The relation `Is` says which struct is written for which value.
use Rattle.std.specs.Prelude.{◌≡◌, ℕ, List, [], ◌∷◌, ◌++◌, Option, MatchOption, length}
use Rattle.cron_c.specs.declared.status.Status.{Status}
use Rattle.cron_c.specs.declared.status.Status.TheVariants.{Done, NoItem, More}

-- the value that was found is in the struct; or none was found, and the struct is unchanged
abbrev pub Writes : {A X : Type 0} → (A → X → Type 0) → Option A → X → X → Status → Type 0
Writes Is found old new status = MatchOption found ((status ≡ NoItem) × (new ≡ old)) (λ a. (status ≡ Done) × Is a new)

-- the first places of the array hold the structs of the values in the first list, and the others
-- what they held
unfoldable pub IsFront : {A X : Type 0} → (A → X → Type 0) → List A → List X → List X → Type 0
IsFront Is [] old new = new ≡ old
IsFront Is (a ∷ l) (x ∷ xs) (y ∷ ys) = Is a y × IsFront Is l xs ys
IsFront Is _ _ _ = ⊥

-- the structs of all the values are at the front of the array
abbrev pub IsWhole : {A X : Type 0} → (A → X → Type 0) → List A → List X → List X → ℕ → Type 0
IsWhole Is all old new count = IsFront Is all old new × (count ≡ length all)

-- the structs of the first values fill the array, and others are left
pub record IsPage {A X : Type 0} (Is : A → X → Type 0) (all : List A) (old new : List X) (count : ℕ) : Type 0 where
  pub written : List A
  pub next : A
  pub left : List A
  pub cut : all ≡ written ++ next ∷ left
  pub items : IsFront Is written old new
  pub counted : count ≡ length written
  pub full : count ≡ length old

-- the structs of the values are written as far as they fit, and the status says whether these are
-- all
abbrev pub Fills : {A X : Type 0} → (A → X → Type 0) → List A → List X → List X → ℕ → Status → Type 0
Fills Is all old new count Done = IsWhole Is all old new count
Fills Is all old new count More = IsPage Is all old new count
Fills Is all old new count _ = ⊥
