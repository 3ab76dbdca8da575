-- The items of a field.
use Rattle.std.specs.Prelude.{ℕ, List}

-- what an item ranges over before its step: `*`, `?`, a number, or a range of numbers or of names
pub data Base : Type 0 where
  every : Base
  question_mark : Base
  single : ℕ → Base
  number_range : ℕ → ℕ → Base
  name_range : List ℕ → List ℕ → Base

-- a base, a base with a step, or one name alone
pub data Item : Type 0 where
  plain : Base → Item
  stepped : Base → ℕ → Item
  name : List ℕ → Item
