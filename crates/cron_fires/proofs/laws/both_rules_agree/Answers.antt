use Rattle.cron_fires.proofs.AgreeLemmas.{both_agree}
use Rattle.cron_fires.proofs.laws.both_rules_agree.Goals as goal

pub returns : goal.returns
returns c = both_agree
