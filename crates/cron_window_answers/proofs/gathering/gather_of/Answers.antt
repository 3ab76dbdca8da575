use Rattle.cron_window_answers.proofs.gathering.gather_of.Goals as goal

pub returns-in-AsShown : goal.returns-in-AsShown
returns-in-AsShown c = rw (← c.in-AsShown.ensures, ← c.as_slice.ensures.list) c.gather_by.ensures

pub returns-in-Once : goal.returns-in-Once
returns-in-Once c = rw (← c.in-Once.ensures, ← c.as_slice.ensures.list) c.gather_by-in-Once.ensures
