use Rattle.std.proofs.Common.{◌≡◌, ◌+◌, List, length, map}
use Rattle.jiff.specs.Words.{plain_zone}
use Rattle.cron_agenda_scheduler.specs.Late.{tables}
use Rattle.cron_agenda_scheduler.specs.Turns.{AreDone, Deed, HadRuns, job_calls, runs_in}
use Rattle.cron_agenda_scheduler.proofs.turns.run_due.Given as goal

-- so many fires were taken, and what is left of the runs
abbrev pub invariant-loop : goal.invariant-loop
invariant-loop g l =
    (ds : List Deed) × (length ds ≡ l.counter) × (runs_in ds + l.left ≡ l.initial.left)
    × AreDone (tables g.T.CivilSeconds.has g.T.HasLateness.lateness (map plain_zone l.zones)) (job_calls g.J.AgendaJob.runs g.J.AgendaJob.passes)
    l.now.nanosecond ds l.initial.agenda l.initial.job l.agenda l.job
    × HadRuns l.initial.left ds
