use Rattle.cron.proofs.RunLemmas.{runs_joined}
use Rattle.cron.proofs.laws.joined_runs.Goals as goal

pub returns : goal.returns
returns c = runs_joined
