use Rattle.cron_days.proofs.LawLemmas.{moved_allowed}
use Rattle.cron_days.proofs.laws.moved_lie_on_allowed_days.Goals as goal

pub returns : goal.returns
returns c = moved_allowed
