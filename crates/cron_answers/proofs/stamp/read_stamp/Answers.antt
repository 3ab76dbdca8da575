use Rattle.std.proofs.Common.{sym, ◌∙◌}
use Rattle.cron_answers.proofs.stamp.read_stamp.Goals as goal

pub returns-in-Some-clause-only : goal.returns-in-Some-clause-only
returns-in-Some-clause-only c = λ d h. sym c.in-Some.is ∙ c.guess.ensures d h
