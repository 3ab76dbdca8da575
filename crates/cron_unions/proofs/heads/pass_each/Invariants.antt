use Rattle.cron_unions.proofs.HeadLemmas.{ArePassed}
use Rattle.cron_unions.proofs.heads.pass_each.Given as goal

abbrev pub invariant-loop-at : goal.invariant-loop-at
invariant-loop-at l = ArePassed l.schedules l.second l.at l.heads
