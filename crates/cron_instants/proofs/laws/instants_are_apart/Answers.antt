use Rattle.cron_instants.proofs.AgreementLemmas.{instants_apart}
use Rattle.cron_instants.proofs.laws.instants_are_apart.Goals as goal

pub returns : goal.returns
returns c = instants_apart
