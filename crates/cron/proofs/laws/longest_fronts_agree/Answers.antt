use Rattle.cron_text.proofs.MeaningLemmas.{fronts_agree}
use Rattle.cron.proofs.laws.longest_fronts_agree.Goals as goal

pub returns : goal.returns
returns c = fronts_agree
