use Rattle.std.proofs.Common.{◌≡◌, ◌++◌, ◌∷◌, [], sym, ◌∙◌, ap}
use Rattle.std.proofs.lemmas.Result.{err_from_is_err_and}
use Rattle.jiff.specs.Words.{plain_zone}
use Rattle.cron_seconds.specs.Rules.{is_by}
use Rattle.cron_scheduler.specs.declared.plan.Start.TheVariants.{Past}
use Rattle.cron_scheduler.specs.Plans.{planned}
use Rattle.cron_scheduler.specs.Passing.{planned_past}
use Rattle.cron_scheduler.proofs.PassingLemmas.{ran_on, pass_on, left_on}
use Rattle.cron_scheduler.proofs.runs.run_due.Goals as goal

pub returns-in_err-run : goal.returns-in_err-run
returns-in_err-run g c =
    let (rs, went, split, by, can, next) = c.loop-fire.invariant in
    let first = c.in-Some.ensures in
    let p = err_from_is_err_and c.from_residual.result c.from_residual.ensures.1 in
    rw (p.1, p.2) (record {
      due = (rs, c.loop-fire.job, c.in-Some.fire, _, went, c.in_err-run.ensures.call, split, first.0, by, first.1);
      stays = c.in_err-run.ensures.stays;
      next = next;
    })

pub loop-fire-preserved : goal.loop-fire-preserved
loop-fire-preserved g c =
    let (rs, went, split, by, can, next) = c.loop-fire.invariant in
    let fire = c.in-Some.fire in
    let first = c.in-Some.ensures in
    let s = g.T.CivilSeconds.has c.args.plan.now.table.now in
    let z = plain_zone c.args.plan.now.zone.now in
    let passed : planned_past g.F.Fire.after g.F.Fire.past s z fire c.loop-fire.rest.most ≡ planned g.F.Fire.after g.F.Fire.past s z c.behind.result.start c.behind.result.most =
    sym (ap (λ start. planned g.F.Fire.after g.F.Fire.past s z start c.behind.result.most) c.behind.ensures.start
    ∙ ap (λ most. planned g.F.Fire.after g.F.Fire.past s z (Past fire) most) c.behind.ensures.most) in (
      rs ++ fire ∷ [],
      ran_on g.J.Job.runs rs fire _ c.loop-fire.job c.run.new.self went c.in_ok-run.ensures.call,
      left_on _ rs _ _ fire split (first.0 ∙ ap (λ l. fire ∷ l) passed),
      pass_on (is_by g.F.Fire.at c.args.now.nanosecond) rs fire by first.1,
      c.in_ok-run.ensures.stays,
      c.behind.ensures.next,
    )
