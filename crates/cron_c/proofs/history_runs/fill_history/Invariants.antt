use Rattle.std.proofs.Common.{◌-◌}
use Rattle.cron_c.proofs.HistoryFilling.{IsFilling}
use Rattle.cron_c.proofs.history_runs.fill_history.Given as goal

-- the items of the eras so far are written
abbrev pub invariant-loop-at : goal.invariant-loop-at
invariant-loop-at g l = IsFilling (g.S.CivilSeconds.has l.set) l.eras l.begin l.now.nanosecond l.initial.items l.items l.at l.written

abbrev pub decreases-loop-at : goal.decreases-loop-at
decreases-loop-at g l = l.end - l.at
