use Rattle.cron.proofs.Examples.{days_are_numbered}
use Rattle.cron.proofs.laws.days_are_numbered.Goals as goal

pub returns : goal.returns
returns c = days_are_numbered
