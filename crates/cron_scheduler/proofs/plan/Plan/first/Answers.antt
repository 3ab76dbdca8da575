use Rattle.std.proofs.Common.{sym, ◌∙◌, subst}
use Rattle.jiff.specs.Words.{plain_zone}
use Rattle.cron_scheduler.specs.declared.plan.Start.{Start}
use Rattle.cron_scheduler.specs.declared.plan.Start.TheVariants.{After, Past}
use Rattle.cron_scheduler.specs.Passing.{IsFirst}
use Rattle.cron_scheduler.proofs.PlanLemmas.{first_planned}
use Rattle.cron_scheduler.proofs.plan.Plan.first.Goals as goal

pub returns-in-After : goal.returns-in-After
returns-in-After g c =
    let s = g.T.CivilSeconds.has c.args.self.now.table.now in
    let z = plain_zone c.args.self.now.zone.now in
    let most = c.args.most in
    let answer = c.first_after.result in
    subst (λ (start : Start _). IsFirst g.F.Fire.after g.F.Fire.past s z start most answer) (sym c.in-After.is)
    (first_planned g.F.Fire.after g.F.Fire.past s z (After c.in-After.now) most answer (sym c.eq.ensures ∙ c.if-eq.false) c.first_after.ensures)

pub returns-in-Past : goal.returns-in-Past
returns-in-Past g c =
    let s = g.T.CivilSeconds.has c.args.self.now.table.now in
    let z = plain_zone c.args.self.now.zone.now in
    let most = c.args.most in
    let answer = c.first_past.result in
    subst (λ (start : Start _). IsFirst g.F.Fire.after g.F.Fire.past s z start most answer) (sym c.in-Past.is)
    (first_planned g.F.Fire.after g.F.Fire.past s z (Past c.in-Past.fire) most answer (sym c.eq.ensures ∙ c.if-eq.false) c.first_past.ensures)
