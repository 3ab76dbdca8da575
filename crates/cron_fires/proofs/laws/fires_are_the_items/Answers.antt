use Rattle.cron_fires.proofs.LawLemmas.{are_the_items}
use Rattle.cron_fires.proofs.laws.fires_are_the_items.Goals as goal

pub returns : goal.returns
returns c = are_the_items
