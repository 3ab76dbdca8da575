use Rattle.cron_agenda_scheduler.specs.Turns.{job_calls}
use Rattle.cron_scheduler.specs.Runs.{clock_calls}
use Rattle.cron_agenda_scheduler.proofs.StayLemmas.{stays_beside_others, stays_throughout}
use Rattle.cron_agenda_scheduler.proofs.laws.entry_stays.Goals as goal

pub returns-clause-beside : goal.returns-clause-beside
returns-clause-beside g c = λ id. stays_beside_others g.T.CivilSeconds.has id

pub returns-clause-throughout : goal.returns-clause-throughout
returns-clause-throughout g c = λ ts id keeps.
    stays_throughout ts (clock_calls g.C.AlarmClock.shows g.C.AlarmClock.waits) (job_calls g.J.AgendaJob.runs g.J.AgendaJob.passes) id keeps
