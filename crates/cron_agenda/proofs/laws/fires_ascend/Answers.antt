use Rattle.cron_agenda.proofs.FireLemmas.{fires_ascend}
use Rattle.cron_agenda.proofs.laws.fires_ascend.Goals as goal

pub returns : goal.returns
returns c = fires_ascend
