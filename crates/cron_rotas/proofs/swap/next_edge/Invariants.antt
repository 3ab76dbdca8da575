use Rattle.std.proofs.Common.{◌≡◌, ◌<◌, ℕ, ◌≤ℤ◌, ◌<ℤ◌, Some}
use Rattle.std.specs.Prelude.{slice_get}
use Rattle.cron_rotas.specs.declared.swap.Swap.{Swap}
use Rattle.cron_rotas.specs.Edges.{NoEdgeOf}
use Rattle.cron_rotas.proofs.swap.next_edge.Given as goal

abbrev pub invariant-loop-swap : goal.invariant-loop-swap
invariant-loop-swap l =
    (l.second <ℤ l.end) × (l.end ≤ℤ l.to) × ((k : ℕ) (s : Swap) → k < l.swap-index → slice_get l.swaps k ≡ Some s → NoEdgeOf l.second l.end s)
