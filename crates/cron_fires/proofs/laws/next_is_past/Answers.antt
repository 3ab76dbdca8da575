use Rattle.cron_fires.proofs.LawLemmas.{next_past}
use Rattle.cron_fires.proofs.laws.next_is_past.Goals as goal

pub returns : goal.returns
returns c = next_past
