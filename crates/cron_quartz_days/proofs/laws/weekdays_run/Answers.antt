use Rattle.cron_quartz_days.proofs.FormLemmas.{weekdays_run}
use Rattle.cron_quartz_days.proofs.laws.weekdays_run.Goals as goal

pub returns : goal.returns
returns c = weekdays_run
