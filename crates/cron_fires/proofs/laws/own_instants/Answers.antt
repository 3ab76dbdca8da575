use Rattle.cron_fires.proofs.LawLemmas.{tell_apart}
use Rattle.cron_fires.proofs.laws.own_instants.Goals as goal

pub returns : goal.returns
returns c = tell_apart
