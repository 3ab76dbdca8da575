use Rattle.cron_instants.proofs.AgreementLemmas.{items_matches}
use Rattle.cron_instants.proofs.laws.items_are_the_matches.Goals as goal

pub returns : goal.returns
returns c = items_matches
