use Rattle.cron.proofs.ResumedLemmas.{items_in_range}
use Rattle.cron.proofs.laws.items_in_range.Goals as goal

pub returns : goal.returns
returns c = items_in_range
