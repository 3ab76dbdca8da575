use Rattle.cron_agenda.proofs.AnewLemmas.{added_are_anew, added_has_all, restart_of_all_goes_on}
use Rattle.cron_agenda.proofs.laws.restart_of_all.Goals as goal

pub returns-clause-all : goal.returns-clause-all
returns-clause-all g c = restart_of_all_goes_on g.T.CivilSeconds.has

pub returns-clause-anew : goal.returns-clause-anew
returns-clause-anew g c = added_are_anew g.T.CivilSeconds.has

pub returns-clause-first : goal.returns-clause-first
returns-clause-first g c = added_has_all g.T.CivilSeconds.has
