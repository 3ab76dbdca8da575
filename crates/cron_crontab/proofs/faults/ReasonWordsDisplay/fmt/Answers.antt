use Rattle.cron_crontab.proofs.faults.ReasonWordsDisplay.fmt.Goals as goal

pub returns-in-Outside-clause-writes : goal.returns-in-Outside-clause-writes
returns-in-Outside-clause-writes g c =
    rw (c.in-Outside.is) (let wrote = rw (c.least-least.ensures, c.greatest-greatest.ensures) at c.write-in-Outside.ensures.writes in wrote)
