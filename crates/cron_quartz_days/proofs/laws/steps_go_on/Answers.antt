use Rattle.cron_quartz_days.proofs.RangeLemmas.{steps_go_on}
use Rattle.cron_quartz_days.proofs.laws.steps_go_on.Goals as goal

pub returns : goal.returns
returns c = steps_go_on
