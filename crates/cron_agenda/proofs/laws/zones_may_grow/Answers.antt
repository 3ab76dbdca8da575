use Rattle.cron_agenda.proofs.ZoneLemmas.{stay_lent, zones_may_grow}
use Rattle.cron_agenda.proofs.laws.zones_may_grow.Goals as goal

pub returns-clause-grown : goal.returns-clause-grown
returns-clause-grown g c = zones_may_grow g.T.CivilSeconds.has

pub returns-clause-lent : goal.returns-clause-lent
returns-clause-lent g c = stay_lent g.T.CivilSeconds.has
