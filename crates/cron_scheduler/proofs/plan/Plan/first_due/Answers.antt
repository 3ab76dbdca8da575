use Rattle.std.proofs.Common.{◌≡◌, [], arith, sym, subst}
use Rattle.std.specs.Prelude.{◌<ℤ◌, ◌≤ℤ◌}
use Rattle.std.proofs.lemmas.Int.{ints}
use Rattle.jiff.specs.Words.{plain_zone}
use Rattle.cron_seconds.specs.Rules.{is_by}
use Rattle.cron_scheduler.specs.Plans.{planned}
use Rattle.cron_scheduler.specs.Passing.{IsFirst, NonePass}
use Rattle.cron_scheduler.proofs.PlanLemmas.{due_by, late_by, none_due}
use Rattle.cron_scheduler.proofs.plan.Plan.first_due.Goals as goal

pub returns-in_default : goal.returns-in_default
returns-in_default g c =
    let s = g.T.CivilSeconds.has c.args.self.now.table.now in
    let z = plain_zone c.args.self.now.zone.now in
    let none : planned g.F.Fire.after g.F.Fire.past s z c.args.rest.now.start c.args.rest.now.most ≡ [] =
    subst (IsFirst g.F.Fire.after g.F.Fire.past s z c.args.rest.now.start c.args.rest.now.most) c.in_default.is c.requires in
    subst (NonePass (is_by g.F.Fire.at c.args.now.nanosecond)) (sym none) tt

pub returns-then-gt : goal.returns-then-gt
returns-then-gt g c =
    let s = g.T.CivilSeconds.has c.args.self.now.table.now in
    let z = plain_zone c.args.self.now.zone.now in
    let now = c.args.now.nanosecond in
    let fire = c.in-Some.first in
    let late : now <ℤ c.instant.result.nanosecond = grind (arith, ints, c.gt.ensures, c.if-gt.true) in
    none_due g.F.Fire.at g.F.Fire.after g.F.Fire.past s z c.args.rest.now.start c.args.rest.now.most now fire (c.never_decrease.ensures.0 s z)
    (c.never_decrease.ensures.1 s z) (subst (IsFirst g.F.Fire.after g.F.Fire.past s z c.args.rest.now.start c.args.rest.now.most) c.in-Some.is c.requires)
    (late_by g.F.Fire.at c.instant.result.nanosecond now fire c.instant.ensures late)

pub returns : goal.returns
returns g c =
    let s = g.T.CivilSeconds.has c.args.self.now.table.now in
    let z = plain_zone c.args.self.now.zone.now in
    let early : c.instant.result.nanosecond ≤ℤ c.args.now.nanosecond = grind (arith, ints, c.gt.ensures, c.if-gt.false) in (
      subst (IsFirst g.F.Fire.after g.F.Fire.past s z c.args.rest.now.start c.args.rest.now.most) c.in-Some.is c.requires,
      due_by g.F.Fire.at c.instant.result.nanosecond c.args.now.nanosecond c.in-Some.first c.instant.ensures early,
    )
