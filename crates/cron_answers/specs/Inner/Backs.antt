-- The last instant before another.
use Rattle.std.specs.Prelude.{◌≡◌, ◌⊎◌, ℤ, pos, neg_ℤ, ◌-ℤ◌, ◌≤ℤ◌}

-- t is the instant a nanosecond before u, both in nanoseconds since 1970; or u is the first of all
-- instants
abbrev pub IsJustBefore : ℤ → ℤ → Type 0
IsJustBefore u t = (t ≡ u -ℤ pos 1) ⊎ ((t ≡ u) × (u ≤ℤ neg_ℤ (pos 377_705_023_201_000_000_000)))
