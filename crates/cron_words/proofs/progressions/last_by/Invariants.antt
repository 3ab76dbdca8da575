-- the numbers so far ascend by the step, and the last of them is known
use Rattle.cron_words.proofs.ProgressionLemmas.{Going}
use Rattle.cron_words.proofs.progressions.last_by.Given as goal

abbrev pub invariant-loop-ordinal : goal.invariant-loop-ordinal
invariant-loop-ordinal l = Going l.step l.start l.initial.ordinal-iterator l.last l.ordinal-iterator
