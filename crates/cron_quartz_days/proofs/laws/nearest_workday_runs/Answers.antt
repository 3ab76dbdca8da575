use Rattle.cron_quartz_days.proofs.WorkdayLemmas.{nearest_workday_runs}
use Rattle.cron_quartz_days.proofs.laws.nearest_workday_runs.Goals as goal

pub returns : goal.returns
returns c = nearest_workday_runs
