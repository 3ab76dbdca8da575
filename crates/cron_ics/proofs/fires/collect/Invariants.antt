use Rattle.std.proofs.Common.{◌≡◌, ◌≤◌, ◌++◌, List, length}
use Rattle.cron_ics.specs.Fires.{AreTold, Told}
use Rattle.cron_ics.proofs.fires.collect.Given as goal

abbrev pub invariant-fires : goal.invariant-fires
invariant-fires g l =
    (front : List Told) × AreTold front l.fires.items × (g.L.Left.left l.initial.left ≡ front ++ g.L.Left.left l.left)
    × (length l.fires.items ≤ l.room)

abbrev pub decreases-fires : goal.decreases-fires
decreases-fires g l = length (g.L.Left.left l.left)
