use Rattle.cron_text.proofs.FilledLemmas.{means_sets}
use Rattle.cron.proofs.laws.means_sets.Goals as goal

pub returns : goal.returns
returns c = means_sets
