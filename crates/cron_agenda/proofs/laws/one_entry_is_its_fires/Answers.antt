use Rattle.cron_agenda.proofs.MergeLemmas.{one_is_its_fires}
use Rattle.cron_agenda.proofs.laws.one_entry_is_its_fires.Goals as goal

pub returns : goal.returns
returns g c = one_is_its_fires g.T.CivilSeconds.has
