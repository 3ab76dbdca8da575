use Rattle.cron_agenda_scheduler.specs.Turns.{job_calls}
use Rattle.cron_scheduler.specs.Runs.{clock_calls}
use Rattle.cron_agenda_scheduler.proofs.CountLemmas.{none_is_cut}
use Rattle.cron_agenda_scheduler.proofs.PlanLemmas.{loop_is_a_plans_run, one_has_a_plans_fires}
use Rattle.cron_agenda_scheduler.proofs.laws.one_entry_is_a_plan.Goals as goal

pub returns-clause-fires : goal.returns-clause-fires
returns-clause-fires g c = one_has_a_plans_fires g.T.CivilSeconds.has

pub returns-clause-all : goal.returns-clause-all
returns-clause-all g c = none_is_cut g.T.CivilSeconds.has

pub returns-clause-runs : goal.returns-clause-runs
returns-clause-runs g c = λ ts. loop_is_a_plans_run ts (clock_calls g.C.AlarmClock.shows g.C.AlarmClock.waits) (job_calls g.J.AgendaJob.runs g.J.AgendaJob.passes)
