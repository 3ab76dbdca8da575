use Rattle.cron_agenda.proofs.MergeLemmas.{taken_is_first}
use Rattle.cron_agenda.proofs.laws.taken_is_the_first.Goals as goal

pub returns : goal.returns
returns g c = taken_is_first g.T.CivilSeconds.has
