use Rattle.cron.proofs.Callers.{read_sets, read_refused}
use Rattle.cron_callers.specs.Literals.{work_days, work_days_text}
use Rattle.cron_callers.proofs.LiteralLemmas.{work_days_meant}
use Rattle.cron_callers.proofs.literals.work_days.Goals as goal

pub returns-clause-sets : goal.returns-clause-sets
returns-clause-sets c = read_sets work_days_text work_days c.from_str.result work_days_meant c.from_str.ensures.means

pub returns-clause-refused : goal.returns-clause-refused
returns-clause-refused c = read_refused work_days_text work_days c.from_str.result work_days_meant c.from_str.ensures.refused
