use Rattle.cron_quartz_days.proofs.FormLemmas.{last_weekday_runs}
use Rattle.cron_quartz_days.proofs.laws.last_weekday_runs.Goals as goal

pub returns : goal.returns
returns c = last_weekday_runs
