use Rattle.cron_answers.proofs.trouble.TroubleDisplay.fmt.Goals as goal

pub returns-in-Expression-clause-writes : goal.returns-in-Expression-clause-writes
returns-in-Expression-clause-writes g c = rw c.in-Expression.is (λ plain ok. c.write.ensures.writes plain ok)

pub returns-in-Order-clause-writes : goal.returns-in-Order-clause-writes
returns-in-Order-clause-writes g c = rw c.in-Order.is (λ plain ok. c.write-in-Order.ensures.writes plain ok)
