use Rattle.cron_agenda.proofs.MergeLemmas.{entries_ascend}
use Rattle.cron_agenda.proofs.laws.entries_ascend.Goals as goal

pub returns : goal.returns
returns g c = entries_ascend g.T.CivilSeconds.has
