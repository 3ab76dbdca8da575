use Rattle.std.proofs.Common.{◌-◌, length}
use Rattle.cron_c.specs.Histories.{IsHistory}
use Rattle.cron_c.proofs.Eras.{NoneSoFar}
use Rattle.cron_c.proofs.history.first_of_history.Given as goal

-- no item beyond lies in an era so far
abbrev pub invariant-loop-at : goal.invariant-loop-at
invariant-loop-at g l = IsHistory l.eras → NoneSoFar (g.S.CivilSeconds.has l.set) l.eras l.begin l.at

abbrev pub decreases-loop-at : goal.decreases-loop-at
decreases-loop-at g l = length l.eras - l.at
