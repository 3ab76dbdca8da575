use Rattle.cron_checking.proofs.line.tell_sets.Goals as goal

pub returns-in-Next : goal.returns-in-Next
returns-in-Next c = rw c.in-Next.is c.tell_first.ensures
