-- Of some places, each with an instant or none, the one that comes first.
use Rattle.std.specs.Prelude.{◌≡◌, ℕ, ℤ, true, Option, Some, MatchOption, List, slice_get}
use Rattle.cron_instants.specs.Order.{comes_before}

-- the place has this instant
abbrev pub HasAt : List (Option ℤ) → ℕ → ℤ → Type 0
HasAt own i n = slice_get own i ≡ Some (Some n)

-- this place comes before each other one: by instant, or by its number if they share the instant
pub record ComesFirst (own : List (Option ℤ)) (place : ℕ) : Type 0 where
  pub instant : ℤ
  pub here : HasAt own place instant
  pub others : (j : ℕ) (m : ℤ) → HasAt own j m → (j ≡ place → ⊥) → comes_before instant place m j ≡ true

-- the place that comes first; `None` exactly if no place has an instant
abbrev pub IsFirstPlace : List (Option ℤ) → Option ℕ → Type 0
IsFirstPlace own answer = MatchOption answer ((j : ℕ) (m : ℤ) → HasAt own j m → ⊥) (ComesFirst own)
