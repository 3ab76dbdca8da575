use Rattle.cron_window_answers.proofs.told.tell.Goals as goal

pub returns-in-At-clause-tells : goal.returns-in-At-clause-tells
returns-in-At-clause-tells g c = rw c.in-At.is c.say.ensures.says
