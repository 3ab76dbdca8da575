use Rattle.cron_quartz_days.proofs.FormLemmas.{before_last_runs}
use Rattle.cron_quartz_days.proofs.laws.before_last_runs.Goals as goal

pub returns : goal.returns
returns c = before_last_runs
