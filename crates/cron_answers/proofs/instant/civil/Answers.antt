use Rattle.cron_answers.proofs.instant.civil.Goals as goal

pub returns-in-None : goal.returns-in-None
returns-in-None c = λ t told. c.in-None.ensures told.0 told.1
