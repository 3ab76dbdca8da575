use Rattle.cron_quartz_days.proofs.WorkdayLemmas.{near_last_runs}
use Rattle.cron_quartz_days.proofs.laws.near_last_runs.Goals as goal

pub returns : goal.returns
returns c = near_last_runs
