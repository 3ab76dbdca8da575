use Rattle.cron.proofs.RunLemmas.{neighbours}
use Rattle.cron.proofs.laws.neighbours.Goals as goal

pub returns : goal.returns
returns c = neighbours
