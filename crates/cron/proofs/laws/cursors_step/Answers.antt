use Rattle.cron.proofs.Examples.{cursors_step}
use Rattle.cron.proofs.laws.cursors_step.Goals as goal

pub returns : goal.returns
returns c = cursors_step
