use Rattle.cron_agenda_scheduler.specs.Turns.{job_calls}
use Rattle.cron_scheduler.specs.Runs.{clock_calls}
use Rattle.cron_tab_running.specs.Clocks.{Shows, Waits}
use Rattle.cron_tab_running.proofs.NoteLemmas.{notes_are_true}
use Rattle.cron_tab_running.proofs.laws.notes_are_true.Goals as goal

pub returns : goal.returns
returns g c =
    λ ts. notes_are_true ts (clock_calls (Shows g.C.AlarmClock.shows) (Waits g.C.AlarmClock.shows g.C.AlarmClock.waits g.F.Changing.changes g.S.Store.does))
    (job_calls g.J.AgendaJob.runs g.J.AgendaJob.passes)
