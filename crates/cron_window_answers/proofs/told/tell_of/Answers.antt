use Rattle.cron_window_answers.proofs.told.tell_of.Goals as goal

pub returns-in-AsShown-clause-tells : goal.returns-in-AsShown-clause-tells
returns-in-AsShown-clause-tells g c = rw (← c.in-AsShown.ensures, ← c.as_slice.ensures.list) c.tell_by.ensures.tells

pub returns-in-Once-clause-tells : goal.returns-in-Once-clause-tells
returns-in-Once-clause-tells g c = rw (← c.in-Once.ensures, ← c.as_slice.ensures.list) c.tell_by-in-Once.ensures.tells
