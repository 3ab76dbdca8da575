use Rattle.std.proofs.Common.{◌≤◌, ◌<◌, ℕ, length}
use Rattle.std.specs.Prelude.{map}
use Rattle.cron_earliest.specs.Tree.{IsBestAt}
use Rattle.cron_c.specs.Agendas.{AreSame, instants_of, soonest}
use Rattle.cron_c.proofs.agenda_tree.rebuild.Given as goal

-- the places from the last one on are right
abbrev pub invariant-loop-at : goal.invariant-loop-at
invariant-loop-at l =
    AreSame l.fn.entries l.entries × ((i : ℕ) → l.at ≤ i → i < length l.entries → IsBestAt (instants_of l.entries) (map soonest l.entries) i)
