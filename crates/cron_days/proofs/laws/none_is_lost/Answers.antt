use Rattle.cron_days.proofs.LawLemmas.{none_lost}
use Rattle.cron_days.proofs.laws.none_is_lost.Goals as goal

pub returns : goal.returns
returns c = none_lost
