use Rattle.std.proofs.Common.{◌<◌, length}
use Rattle.cron_c.specs.Agendas.{AreSame, IsAgendaBut}
use Rattle.cron_c.proofs.agenda_tree.repair.Given as goal

abbrev pub invariant-loop-at : goal.invariant-loop-at
invariant-loop-at l =
    (l.at < length l.entries) × AreSame l.fn.entries l.entries × (IsAgendaBut l.fn.entries l.fn.from → IsAgendaBut l.entries l.at)

abbrev pub decreases-loop-at : goal.decreases-loop-at
decreases-loop-at l = l.at
