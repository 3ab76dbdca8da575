use Rattle.cron_text.proofs.MeaningLemmas.{means_once}
use Rattle.cron.proofs.laws.means_once.Goals as goal

pub returns : goal.returns
returns c = means_once
