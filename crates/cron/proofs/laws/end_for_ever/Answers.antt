use Rattle.cron.proofs.RunLemmas.{ended_runs}
use Rattle.cron.proofs.laws.end_for_ever.Goals as goal

pub returns : goal.returns
returns c = ended_runs
