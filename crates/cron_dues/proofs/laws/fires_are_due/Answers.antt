use Rattle.cron_dues.proofs.DueLemmas.{fire_due}
use Rattle.cron_dues.proofs.laws.fires_are_due.Goals as goal

pub returns : goal.returns
returns c = fire_due
