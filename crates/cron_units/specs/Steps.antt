-- Ordinals by steps.
use Rattle.std.specs.Prelude.{◌-◌, ◌%◌, ◌==◌, ℕ, Bool, ◌&&◌, nat_le}

-- each `every`-th number, from the first to the last
pub record Progression : Type 0 where
  pub first : ℕ
  pub last : ℕ
  pub every : ℕ

-- x is from the first to the last, and a whole number of steps after the first
abbrev pub in_steps : Progression → ℕ → Bool
in_steps s x = nat_le s.first x && nat_le x s.last && (x - s.first) % s.every == 0
