use Rattle.cron_dues.proofs.DueLemmas.{due_is}
use Rattle.cron_dues.proofs.laws.due_instants_are_first.Goals as goal

pub returns : goal.returns
returns c = due_is
