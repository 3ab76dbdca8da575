use Rattle.cron_agenda_scheduler.specs.Turns.{job_calls}
use Rattle.cron_agenda_scheduler.proofs.LateLawLemmas.{all_are_by_age, all_are_run, each_is_run, latest_runs_no_other, latest_runs_the_last, within_is_by_age}
use Rattle.cron_agenda_scheduler.proofs.laws.lateness_is_kept.Goals as goal

pub returns-clause-each : goal.returns-clause-each
returns-clause-each g c = λ ts id. each_is_run ts (job_calls g.J.AgendaJob.runs g.J.AgendaJob.passes) id

pub returns-clause-within : goal.returns-clause-within
returns-clause-within g c = λ ts id. within_is_by_age ts (job_calls g.J.AgendaJob.runs g.J.AgendaJob.passes) id

pub returns-clause-latest : goal.returns-clause-latest
returns-clause-latest g c = λ ts id. latest_runs_the_last ts (job_calls g.J.AgendaJob.runs g.J.AgendaJob.passes) id

pub returns-clause-no_other : goal.returns-clause-no_other
returns-clause-no_other g c = λ ts id. latest_runs_no_other ts (job_calls g.J.AgendaJob.runs g.J.AgendaJob.passes) id

pub returns-clause-all_each : goal.returns-clause-all_each
returns-clause-all_each g c = λ ts. all_are_run ts (job_calls g.J.AgendaJob.runs g.J.AgendaJob.passes)

pub returns-clause-all_within : goal.returns-clause-all_within
returns-clause-all_within g c = λ ts. all_are_by_age ts (job_calls g.J.AgendaJob.runs g.J.AgendaJob.passes)
