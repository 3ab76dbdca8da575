use Rattle.cron_quartz_days.proofs.WorkdayLemmas.{last_workday_runs}
use Rattle.cron_quartz_days.proofs.laws.last_workday_runs.Goals as goal

pub returns : goal.returns
returns c = last_workday_runs
