use Rattle.std.proofs.Common.{◌≡◌, ◌-◌, ◌^◌, arith, subst}
use Rattle.jiff.specs.Words.{plain_zone}
use Rattle.cron_scheduler.specs.Plans.{planned}
use Rattle.cron_scheduler.specs.Passing.{IsFirst, planned_past}
use Rattle.cron_scheduler.proofs.RunLemmas.{at_first, clock_fails, ended, job_fails, round, spent}
use Rattle.cron_scheduler.proofs.plan.Plan.run.Goals as goal

pub loop-init : goal.loop-init
loop-init g c =
    let s = g.T.CivilSeconds.has c.args.self.now.table.now in
    let z = plain_zone c.args.self.now.zone.now in (
      at_first g.C.AlarmClock.shows g.C.AlarmClock.waits g.J.Job.runs g.F.Fire.at (planned g.F.Fire.after g.F.Fire.past s z c.args.self.now.start c.args.self.now.most) c.args.clock.now
          c.args.job.now,
      c.requires,
      c.first.ensures,
    )

pub returns-in_default-clause-run : goal.returns-in_default-clause-run
returns-in_default-clause-run g c =
    let s = g.T.CivilSeconds.has c.args.self.now.table.now in
    let z = plain_zone c.args.self.now.zone.now in
    let fires = planned g.F.Fire.after g.F.Fire.past s z c.args.self.now.start c.args.self.now.most in
    let left = planned g.F.Fire.after g.F.Fire.past s z c.loop.rest.start c.loop.rest.most in
    ended g.C.AlarmClock.shows g.C.AlarmClock.waits g.J.Job.runs g.F.Fire.at fires left c.loop.counter c.args.clock.now c.args.job.now c.loop.clock
    c.loop.job c.loop.invariant.0
    (subst (IsFirst g.F.Fire.after g.F.Fire.past s z c.loop.rest.start c.loop.rest.most) c.in_default.is c.loop.invariant.2)

pub returns-in-Err-clause-run : goal.returns-in-Err-clause-run
returns-in-Err-clause-run g c =
    let s = g.T.CivilSeconds.has c.args.self.now.table.now in
    let z = plain_zone c.args.self.now.zone.now in
    let fires = planned g.F.Fire.after g.F.Fire.past s z c.args.self.now.start c.args.self.now.most in
    let left = planned g.F.Fire.after g.F.Fire.past s z c.loop.rest.start c.loop.rest.most in
    let rest = planned_past g.F.Fire.after g.F.Fire.past s z c.in-Some.fire c.loop.rest.most in
    clock_fails g.C.AlarmClock.shows g.C.AlarmClock.waits g.J.Job.runs g.F.Fire.at fires left rest c.loop.counter c.args.clock.now c.args.job.now
    c.loop.clock c.loop.job
    c.wake_at.new.clock c.in-Some.fire c.instant.result c.in-Err.error c.loop.invariant.0
    (subst (IsFirst g.F.Fire.after g.F.Fire.past s z c.loop.rest.start c.loop.rest.most) c.in-Some.is c.loop.invariant.2) c.instant.ensures c.in-Err.ensures

pub returns-in-Err-run_due-clause-run : goal.returns-in-Err-run_due-clause-run
returns-in-Err-run_due-clause-run g c =
    let s = g.T.CivilSeconds.has c.args.self.now.table.now in
    let z = plain_zone c.args.self.now.zone.now in
    let fires = planned g.F.Fire.after g.F.Fire.past s z c.args.self.now.start c.args.self.now.most in
    let left = planned g.F.Fire.after g.F.Fire.past s z c.loop.rest.start c.loop.rest.most in
    let rest = planned_past g.F.Fire.after g.F.Fire.past s z c.in-Some.fire c.loop.rest.most in
    let after = planned g.F.Fire.after g.F.Fire.past s z c.run_due.new.rest.start c.run_due.new.rest.most in
    job_fails g.C.AlarmClock.shows g.C.AlarmClock.waits g.J.Job.runs g.F.Fire.at fires left after rest c.loop.counter c.args.clock.now c.args.job.now
    c.loop.clock c.loop.job
    c.wake_at.new.clock c.run_due.new.job c.in-Some.fire c.instant.result c.in-Ok.now c.in-Err-run_due.error
    c.loop.invariant.0
    (subst (IsFirst g.F.Fire.after g.F.Fire.past s z c.loop.rest.start c.loop.rest.most) c.in-Some.is c.loop.invariant.2) c.instant.ensures c.in-Ok.ensures c.in-Err-run_due.ensures.due

pub loop-preserved : goal.loop-preserved
loop-preserved g c =
    let s = g.T.CivilSeconds.has c.args.self.now.table.now in
    let z = plain_zone c.args.self.now.zone.now in
    let fires = planned g.F.Fire.after g.F.Fire.past s z c.args.self.now.start c.args.self.now.most in
    let left = planned g.F.Fire.after g.F.Fire.past s z c.loop.rest.start c.loop.rest.most in
    let rest = planned_past g.F.Fire.after g.F.Fire.past s z c.in-Some.fire c.loop.rest.most in
    let after = planned g.F.Fire.after g.F.Fire.past s z c.run_due.new.rest.start c.run_due.new.rest.most in (
      round g.C.AlarmClock.shows g.C.AlarmClock.waits g.J.Job.runs g.F.Fire.at fires left after rest c.loop.counter c.args.clock.now c.args.job.now
          c.loop.clock c.loop.job
          c.wake_at.new.clock c.run_due.new.job c.in-Some.fire c.instant.result c.in-Ok.now
          c.loop.invariant.0
          (subst (IsFirst g.F.Fire.after g.F.Fire.past s z c.loop.rest.start c.loop.rest.most) c.in-Some.is c.loop.invariant.2) c.instant.ensures c.in-Ok.ensures c.in_default-run_due.ensures.due,
      c.run_due.ensures.stays,
      c.run_due.ensures.next,
    )

pub returns-clause-run : goal.returns-clause-run
returns-clause-run g c =
    let s = g.T.CivilSeconds.has c.args.self.now.table.now in
    let z = plain_zone c.args.self.now.zone.now in
    let fires = planned g.F.Fire.after g.F.Fire.past s z c.args.self.now.start c.args.self.now.most in
    let left = planned g.F.Fire.after g.F.Fire.past s z c.loop.rest.start c.loop.rest.most in
    let all : c.loop.counter ≡ 2 ^ 64 - 1 = omega arith in
    spent g.C.AlarmClock.shows g.C.AlarmClock.waits g.J.Job.runs g.F.Fire.at fires left c.loop.counter c.args.clock.now c.args.job.now c.loop.clock
    c.loop.job c.loop.invariant.0 all
