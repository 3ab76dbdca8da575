use Rattle.cron_answers.proofs.ExpressionLemmas.{keeps_crontabs, keeps_own}
use Rattle.cron_answers.proofs.expression.meanings_are_kept.Goals as goal

pub returns-clause-crontabs : goal.returns-clause-crontabs
returns-clause-crontabs c = keeps_crontabs

pub returns-clause-own : goal.returns-clause-own
returns-clause-own c = keeps_own
