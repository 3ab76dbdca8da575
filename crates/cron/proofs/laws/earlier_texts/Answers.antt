use Rattle.cron_text.proofs.EarlierLemmas.{keeps_its_meaning}
use Rattle.cron.proofs.laws.earlier_texts.Goals as goal

pub returns : goal.returns
returns c = keeps_its_meaning
