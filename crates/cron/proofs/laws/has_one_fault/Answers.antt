use Rattle.cron_text.proofs.MeaningLemmas.{one_fault}
use Rattle.cron.proofs.laws.has_one_fault.Goals as goal

pub returns : goal.returns
returns c = one_fault
