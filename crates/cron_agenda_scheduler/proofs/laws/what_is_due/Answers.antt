use Rattle.cron_agenda_scheduler.specs.Turns.{job_calls}
use Rattle.cron_agenda_scheduler.proofs.LawLemmas.{deeds_are_all_due, deeds_are_taken}
use Rattle.cron_agenda_scheduler.proofs.laws.what_is_due.Goals as goal

pub returns-clause-taken : goal.returns-clause-taken
returns-clause-taken g c = λ ts. deeds_are_taken ts (job_calls g.J.AgendaJob.runs g.J.AgendaJob.passes)

pub returns-clause-due : goal.returns-clause-due
returns-clause-due g c = λ ts. deeds_are_all_due ts (job_calls g.J.AgendaJob.runs g.J.AgendaJob.passes)
