use Rattle.jiff.specs.Words.{plain_zone}
use Rattle.cron_scheduler.specs.Plans.{planned}
use Rattle.cron_scheduler.specs.Passing.{IsFirst}
use Rattle.cron_scheduler.proofs.RunLemmas.{Stands}
use Rattle.cron_scheduler.proofs.plan.Plan.run.Given as goal

abbrev pub invariant-loop : goal.invariant-loop
invariant-loop g l =
    (Stands g.C.AlarmClock.shows g.C.AlarmClock.waits g.J.Job.runs g.F.Fire.at
    (planned g.F.Fire.after g.F.Fire.past (g.T.CivilSeconds.has l.self.table.now) (plain_zone l.self.zone.now) l.self.start l.self.most)
    (planned g.F.Fire.after g.F.Fire.past (g.T.CivilSeconds.has l.self.table.now) (plain_zone l.self.zone.now) l.rest.start l.rest.most)
    l.counter l.initial.clock l.initial.job l.clock l.job)
    × g.J.Job.can_run l.job
    × IsFirst g.F.Fire.after g.F.Fire.past (g.T.CivilSeconds.has l.self.table.now) (plain_zone l.self.zone.now) l.rest.start l.rest.most l.rest.next
