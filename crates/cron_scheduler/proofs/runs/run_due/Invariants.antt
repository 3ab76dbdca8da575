use Rattle.std.proofs.Common.{◌≡◌, List, ◌++◌, length}
use Rattle.jiff.specs.Words.{plain_zone}
use Rattle.cron_seconds.specs.Rules.{is_by}
use Rattle.cron_scheduler.specs.Plans.{planned}
use Rattle.cron_scheduler.specs.Passing.{AllPass, IsFirst, RanFor}
use Rattle.cron_scheduler.proofs.runs.run_due.Given as goal

-- the job was run for a beginning of what was due, and the rest is left
abbrev pub invariant-loop-fire : goal.invariant-loop-fire
invariant-loop-fire g l =
    (rs : List _) × RanFor g.J.Job.runs rs l.initial.job l.job
    × (planned g.F.Fire.after g.F.Fire.past (g.T.CivilSeconds.has l.plan.table.now) (plain_zone l.plan.zone.now) l.initial.rest.start l.initial.rest.most
    ≡ rs ++ planned g.F.Fire.after g.F.Fire.past (g.T.CivilSeconds.has l.plan.table.now) (plain_zone l.plan.zone.now) l.rest.start l.rest.most)
    × AllPass (is_by g.F.Fire.at l.now.nanosecond) rs × g.J.Job.can_run l.job
    × IsFirst g.F.Fire.after g.F.Fire.past (g.T.CivilSeconds.has l.plan.table.now) (plain_zone l.plan.zone.now) l.rest.start l.rest.most l.rest.next

abbrev pub decreases-loop-fire : goal.decreases-loop-fire
decreases-loop-fire g l = length (planned g.F.Fire.after g.F.Fire.past (g.T.CivilSeconds.has l.plan.table.now) (plain_zone l.plan.zone.now) l.rest.start l.rest.most)
