use Rattle.cron_agenda.proofs.MergeLemmas.{are_the_fires, stand_in_order}
use Rattle.cron_agenda.proofs.laws.merged_has_the_fires.Goals as goal

pub returns-clause-all : goal.returns-clause-all
returns-clause-all g c = are_the_fires g.T.CivilSeconds.has

pub returns-clause-order : goal.returns-clause-order
returns-clause-order g c = stand_in_order g.T.CivilSeconds.has
