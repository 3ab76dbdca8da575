use Rattle.cron_c.proofs.Arrays.{IsRunning}
use Rattle.cron_c.proofs.itemed.fill.Given as goal

-- the items so far are written, and the run has the others left
abbrev pub invariant-loop-at : goal.invariant-loop-at
invariant-loop-at g l = IsRunning g.R.Itemed.is_item l.initial.run l.run l.initial.items l.items l.at
