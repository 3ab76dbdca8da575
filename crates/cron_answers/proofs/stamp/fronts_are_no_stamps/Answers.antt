use Rattle.cron_answers.proofs.StampLemmas.{no_fronts}
use Rattle.cron_answers.proofs.stamp.fronts_are_no_stamps.Goals as goal

pub returns : goal.returns
returns c = no_fronts
