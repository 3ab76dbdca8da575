use Rattle.cron_agenda.proofs.PartLemmas.{have_parts}
use Rattle.cron_agenda.proofs.agenda.Agenda.len.Goals as goal

pub returns-clause-ids : goal.returns-clause-ids
returns-clause-ids g c = rw (← c.self.view_is) (have_parts c.self.invariant.0.parts)
