use Rattle.cron_agenda_scheduler.specs.Turns.{job_calls}
use Rattle.cron_scheduler.specs.Runs.{clock_calls}
use Rattle.cron_agenda_scheduler.proofs.RunLemmas.{one_entry_takes_its_fires, restarted_runs, runs_that_meet, turns_are_taken}
use Rattle.cron_agenda_scheduler.proofs.laws.whole_runs.Goals as goal

pub returns-clause-taken : goal.returns-clause-taken
returns-clause-taken g c = λ ts. turns_are_taken ts (clock_calls g.C.AlarmClock.shows g.C.AlarmClock.waits) (job_calls g.J.AgendaJob.runs g.J.AgendaJob.passes)

pub returns-clause-meet : goal.returns-clause-meet
returns-clause-meet g c = λ ts. runs_that_meet ts (clock_calls g.C.AlarmClock.shows g.C.AlarmClock.waits) (job_calls g.J.AgendaJob.runs g.J.AgendaJob.passes)

pub returns-clause-restart : goal.returns-clause-restart
returns-clause-restart g c = λ ts. restarted_runs ts (clock_calls g.C.AlarmClock.shows g.C.AlarmClock.waits) (job_calls g.J.AgendaJob.runs g.J.AgendaJob.passes)

pub returns-clause-one : goal.returns-clause-one
returns-clause-one g c = λ ts. one_entry_takes_its_fires ts (clock_calls g.C.AlarmClock.shows g.C.AlarmClock.waits) (job_calls g.J.AgendaJob.runs g.J.AgendaJob.passes)
