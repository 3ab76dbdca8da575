use Rattle.cron_dues.proofs.LawLemmas.{never_decrease}
use Rattle.cron_dues.proofs.laws.due_instants_never_decrease.Goals as goal

pub returns : goal.returns
returns c = never_decrease
