use Rattle.cron_agenda_scheduler.specs.Turns.{job_calls}
use Rattle.cron_scheduler.specs.Runs.{clock_calls}
use Rattle.cron_agenda_scheduler.proofs.EntryLemmas.{entry_deeds_are_all_due, entry_deeds_are_its_fires, entry_deeds_begin_that, entry_failure_is_taken, entry_turns_are_all_due, entry_turns_are_its_fires, entry_turns_begin_that, one_among_all, removal_cuts_that}
use Rattle.cron_agenda_scheduler.proofs.laws.one_entry.Goals as goal

pub returns-clause-among : goal.returns-clause-among
returns-clause-among g c = λ ts id. one_among_all ts id

pub returns-clause-taken : goal.returns-clause-taken
returns-clause-taken g c = λ ts id. entry_deeds_are_its_fires ts (job_calls g.J.AgendaJob.runs g.J.AgendaJob.passes) id

pub returns-clause-due : goal.returns-clause-due
returns-clause-due g c = λ ts id. entry_deeds_are_all_due ts (job_calls g.J.AgendaJob.runs g.J.AgendaJob.passes) id

pub returns-clause-failed : goal.returns-clause-failed
returns-clause-failed g c = λ ts id. entry_failure_is_taken ts (job_calls g.J.AgendaJob.runs g.J.AgendaJob.passes) id

pub returns-clause-begins : goal.returns-clause-begins
returns-clause-begins g c = λ ts id. entry_deeds_begin_that ts (job_calls g.J.AgendaJob.runs g.J.AgendaJob.passes) id

pub returns-clause-turns : goal.returns-clause-turns
returns-clause-turns g c = λ ts id.
    entry_turns_are_its_fires ts (clock_calls g.C.AlarmClock.shows g.C.AlarmClock.waits) (job_calls g.J.AgendaJob.runs g.J.AgendaJob.passes) id

pub returns-clause-removed : goal.returns-clause-removed
returns-clause-removed g c = λ ts id. removal_cuts_that ts (job_calls g.J.AgendaJob.runs g.J.AgendaJob.passes) id

pub returns-clause-turns_begin : goal.returns-clause-turns_begin
returns-clause-turns_begin g c = λ ts id.
    entry_turns_begin_that ts (clock_calls g.C.AlarmClock.shows g.C.AlarmClock.waits) (job_calls g.J.AgendaJob.runs g.J.AgendaJob.passes) id

pub returns-clause-turns_due : goal.returns-clause-turns_due
returns-clause-turns_due g c = λ ts id.
    entry_turns_are_all_due ts (clock_calls g.C.AlarmClock.shows g.C.AlarmClock.waits) (job_calls g.J.AgendaJob.runs g.J.AgendaJob.passes) id
