use Rattle.cron_quartz_days.proofs.TextLemmas.{meanings_have_days}
use Rattle.cron_quartz_days.proofs.laws.meanings_have_days.Goals as goal

pub returns : goal.returns
returns c = meanings_have_days
