use Rattle.cron_agenda.proofs.RestLemmas.{added_past_goes_on, taken_are_the_front, the_rest_is_behind}
use Rattle.cron_agenda.proofs.laws.cut_runs.Goals as goal

pub returns-clause-front : goal.returns-clause-front
returns-clause-front g c = taken_are_the_front g.T.CivilSeconds.has

pub returns-clause-rest : goal.returns-clause-rest
returns-clause-rest g c = the_rest_is_behind g.T.CivilSeconds.has

pub returns-clause-past : goal.returns-clause-past
returns-clause-past g c = added_past_goes_on g.T.CivilSeconds.has
