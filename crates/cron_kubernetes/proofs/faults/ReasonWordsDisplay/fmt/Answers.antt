use Rattle.cron_kubernetes.proofs.faults.ReasonWordsDisplay.fmt.Goals as goal

pub returns-in-Outside-clause-writes : goal.returns-in-Outside-clause-writes
returns-in-Outside-clause-writes g c =
    rw (c.in-Outside.is) (let wrote = rw (c.least-least.ensures, c.greatest-greatest.ensures, c.sunday_hint-hint.ensures) at c.write-in-Outside.ensures.writes in wrote)

pub returns-in-Backward-clause-writes : goal.returns-in-Backward-clause-writes
returns-in-Backward-clause-writes g c = rw (c.in-Backward.is) (c.write-in-Backward.ensures.writes)
