use Rattle.cron_quartz.proofs.faults.ReasonDisplay.fmt.Goals as goal

pub returns-in-Outside-clause-writes : goal.returns-in-Outside-clause-writes
returns-in-Outside-clause-writes g c = rw c.in-Outside.is c.write-in-Outside.ensures.writes
