use Rattle.cron_days.proofs.RunLemmas.{HaveJoined}
use Rattle.cron_days.proofs.runs.runs_from.Given as goal

abbrev pub invariant-loop-day : goal.invariant-loop-day
invariant-loop-day l = HaveJoined l.fn.first l.rest l.day-index l.runs.items l.last
