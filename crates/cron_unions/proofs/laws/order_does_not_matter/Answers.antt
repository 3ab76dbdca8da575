use Rattle.cron_unions.proofs.LawLemmas.{order_is_one}
use Rattle.cron_unions.proofs.laws.order_does_not_matter.Goals as goal

pub returns : goal.returns
returns c = order_is_one
