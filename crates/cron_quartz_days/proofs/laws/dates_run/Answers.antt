use Rattle.cron_quartz_days.proofs.FormLemmas.{dates_run}
use Rattle.cron_quartz_days.proofs.laws.dates_run.Goals as goal

pub returns : goal.returns
returns c = dates_run
