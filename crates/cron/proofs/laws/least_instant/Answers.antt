use Rattle.cron_time.proofs.Walks.FixedLemmas.{first_is_least}
use Rattle.cron.proofs.laws.least_instant.Goals as goal

pub returns : goal.returns
returns c = first_is_least
