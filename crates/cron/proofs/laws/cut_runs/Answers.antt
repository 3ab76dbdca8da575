use Rattle.cron.proofs.ResumedLemmas.{cut_runs_resumed}
use Rattle.cron.proofs.laws.cut_runs.Goals as goal

pub returns : goal.returns
returns c = cut_runs_resumed
