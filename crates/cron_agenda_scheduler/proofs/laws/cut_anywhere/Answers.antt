use Rattle.cron_agenda_scheduler.specs.Turns.{job_calls}
use Rattle.cron_scheduler.specs.Runs.{clock_calls}
use Rattle.cron_agenda_scheduler.proofs.RunLemmas.{cut_turn_is_taken, restarted_anywhere, what_was_taken}
use Rattle.cron_agenda_scheduler.proofs.laws.cut_anywhere.Goals as goal

pub returns-clause-turn : goal.returns-clause-turn
returns-clause-turn g c = λ ts. cut_turn_is_taken ts (clock_calls g.C.AlarmClock.shows g.C.AlarmClock.waits) (job_calls g.J.AgendaJob.runs g.J.AgendaJob.passes)

pub returns-clause-runs : goal.returns-clause-runs
returns-clause-runs g c = λ ts. what_was_taken ts (clock_calls g.C.AlarmClock.shows g.C.AlarmClock.waits) (job_calls g.J.AgendaJob.runs g.J.AgendaJob.passes)

pub returns-clause-restart : goal.returns-clause-restart
returns-clause-restart g c = λ ts. restarted_anywhere ts (clock_calls g.C.AlarmClock.shows g.C.AlarmClock.waits) (job_calls g.J.AgendaJob.runs g.J.AgendaJob.passes)
