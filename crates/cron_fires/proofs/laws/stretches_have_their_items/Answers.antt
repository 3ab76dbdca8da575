use Rattle.cron_fires.proofs.LawLemmas.{have_their_items}
use Rattle.cron_fires.proofs.laws.stretches_have_their_items.Goals as goal

pub returns : goal.returns
returns c = have_their_items
