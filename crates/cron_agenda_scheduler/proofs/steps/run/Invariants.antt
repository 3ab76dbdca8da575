use Rattle.std.proofs.Common.{◌≡◌, ◌+◌, List, length, map}
use Rattle.jiff.specs.Words.{plain_zone}
use Rattle.cron_scheduler.specs.Runs.{clock_calls}
use Rattle.cron_agenda_scheduler.specs.Late.{tables}
use Rattle.cron_agenda_scheduler.specs.Turns.{AreTurns, Deed, all_runs, job_calls}
use Rattle.cron_agenda_scheduler.proofs.steps.run.Given as goal

-- so many turns were made, and what is left of the runs
abbrev pub invariant-loop : goal.invariant-loop
invariant-loop g l =
    (dss : List (List Deed)) × (length dss ≡ l.counter) × (all_runs dss + l.left ≡ l.initial.left)
    × AreTurns (tables g.T.CivilSeconds.has g.T.HasLateness.lateness (map plain_zone l.zones)) (clock_calls g.C.AlarmClock.shows g.C.AlarmClock.waits)
    (job_calls g.J.AgendaJob.runs g.J.AgendaJob.passes) dss l.initial.left l.initial.clock l.initial.agenda l.initial.job l.left l.clock l.agenda l.job
