use Rattle.cron_counting.proofs.LawLemmas.{days_add_up, hours_add_up}
use Rattle.cron_counting.proofs.laws.counts_add_up.Goals as goal

pub returns-clause-days : goal.returns-clause-days
returns-clause-days c = days_add_up

pub returns-clause-hours : goal.returns-clause-hours
returns-clause-hours c = hours_add_up
