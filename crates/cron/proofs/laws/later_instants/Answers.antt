use Rattle.cron_time.proofs.Walks.FixedLemmas.{next_is_later}
use Rattle.cron.proofs.laws.later_instants.Goals as goal

pub returns : goal.returns
returns c = next_is_later
