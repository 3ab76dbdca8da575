-- Seconds at which swaps begin or end.
use Rattle.std.specs.Prelude.{◌≡◌, ℕ, ℤ, ◌≤ℤ◌, ◌<ℤ◌, ◌⊎◌, Some, List, slice_get}
use Rattle.cron_rotas.specs.declared.swap.Swap.{Swap}

-- the swap begins and ends at no second after one that comes before another
abbrev pub NoEdgeOf : ℤ → ℤ → Swap → Type 0
NoEdgeOf second end s = ((s.from ≤ℤ second) ⊎ (end ≤ℤ s.from)) × ((s.until ≤ℤ second) ⊎ (end ≤ℤ s.until))

-- after a second and before `end` no swap begins or ends, and `end` isn't past `to`
abbrev pub IsNextEdge : List Swap → ℤ → ℤ → ℤ → Type 0
IsNextEdge swaps second to end =
    (second <ℤ end) × (end ≤ℤ to) × ((k : ℕ) (s : Swap) → slice_get swaps k ≡ Some s → NoEdgeOf second end s)
