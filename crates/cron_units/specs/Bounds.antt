-- The bounds of a range of ordinals.
use Rattle.std.specs.Prelude.{◌<◌, ◌≤◌, ℕ, ⊤, Bool, true, ◌&&◌, nat_lt, nat_le}
use Rattle.std.specs.declared.ops.Bound.{Bound}
use Rattle.std.specs.declared.ops.Bound.TheVariants.{Included, Excluded, Unbounded}

-- the first bound isn't above the second, and they aren't one number excluded twice
abbrev pub IsForward : Bound ℕ → Bound ℕ → Type 0
IsForward (Included a) (Included b) = a ≤ b
IsForward (Included a) (Excluded b) = a ≤ b
IsForward (Excluded a) (Included b) = a ≤ b
IsForward (Excluded a) (Excluded b) = a < b
IsForward Unbounded _ = ⊤
IsForward _ Unbounded = ⊤

-- x isn't before a first bound
abbrev pub is_from : Bound ℕ → ℕ → Bool
is_from (Included a) x = nat_le a x
is_from (Excluded a) x = nat_lt a x
is_from Unbounded x = true

-- x isn't past a last bound
abbrev pub is_up_to : Bound ℕ → ℕ → Bool
is_up_to (Included b) x = nat_le x b
is_up_to (Excluded b) x = nat_lt x b
is_up_to Unbounded x = true

-- x is between two bounds
abbrev pub is_within : Bound ℕ → Bound ℕ → ℕ → Bool
is_within first last x = is_from first x && is_up_to last x
