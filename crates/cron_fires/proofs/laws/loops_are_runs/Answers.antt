use Rattle.cron_fires.proofs.LawLemmas.{asked}
use Rattle.cron_fires.proofs.laws.loops_are_runs.Goals as goal

pub returns : goal.returns
returns c = asked
