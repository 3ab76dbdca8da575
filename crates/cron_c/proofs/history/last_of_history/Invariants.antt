use Rattle.std.proofs.Common.{◌≤◌, length}
use Rattle.cron_c.specs.Histories.{AllBelow, IsHistory}
use Rattle.cron_c.proofs.history.last_of_history.Given as goal

-- the items by the instant lie in the eras that are left
abbrev pub invariant-loop-left : goal.invariant-loop-left
invariant-loop-left g l = (l.left ≤ length l.eras) × (IsHistory l.eras → AllBelow (g.S.CivilSeconds.has l.set) l.eras l.now.nanosecond l.left)

abbrev pub decreases-loop-left : goal.decreases-loop-left
decreases-loop-left g l = l.left
