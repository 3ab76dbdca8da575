use Rattle.cron_quartz_days.proofs.FormLemmas.{nth_weekday_runs}
use Rattle.cron_quartz_days.proofs.laws.nth_weekday_runs.Goals as goal

pub returns : goal.returns
returns c = nth_weekday_runs
