-- How an object of JSON is written.
use Rattle.std.specs.Prelude.{◌≡◌, ◌++◌, ℕ, List, [], ◌∷◌}
use Rattle.json.specs.Token.{Token, begin_object}
use Rattle.json.specs.Written.{Written}

-- Tokens of JSON were written after those that the object had.
abbrev pub Writes : List Token → Written → Written → Type 0
Writes tokens old new = (new.tokens ≡ old.tokens ++ tokens) × (new.before ≡ old.before)

-- An object was begun after these bytes.
abbrev pub Begins : List ℕ → Written → Type 0
Begins before object = (object.tokens ≡ begin_object ∷ []) × (object.before ≡ before)
