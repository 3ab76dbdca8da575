use Rattle.cron.proofs.Examples.{items_denote}
use Rattle.cron.proofs.laws.items_denote.Goals as goal

pub returns : goal.returns
returns c = items_denote
