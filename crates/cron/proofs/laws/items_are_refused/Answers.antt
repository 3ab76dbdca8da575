use Rattle.cron.proofs.Examples.{items_are_refused}
use Rattle.cron.proofs.laws.items_are_refused.Goals as goal

pub returns : goal.returns
returns c = items_are_refused
