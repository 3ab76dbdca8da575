use Rattle.std.proofs.Common.{◌∙◌, refl, sym}
use Rattle.cron_words.proofs.ListLemmas.{begins, goes_on, if_ok, runs_end}
use Rattle.cron_words.proofs.items.push_runs.Goals as goal

pub loop-ordinal-init : goal.loop-ordinal-init
loop-ordinal-init c = refl

pub loop-ordinal-preserved-in_ok-push_run : goal.loop-ordinal-preserved-in_ok-push_run
loop-ordinal-preserved-in_ok-push_run c =
    begins _ _ _ c.loop-ordinal.first c.loop-ordinal.last c.in-Some.ordinal _ _ (sym c.is_next.ensures ∙ c.if-not-is_next.true) c.in-Some.ensures.steps
    c.in_ok-push_run.ensures c.loop-ordinal.invariant

pub loop-ordinal-preserved : goal.loop-ordinal-preserved
loop-ordinal-preserved c =
    goes_on _ _ c.loop-ordinal.first c.loop-ordinal.last c.in-Some.ordinal _ _ (sym c.is_next.ensures ∙ c.if-not-is_next.false) c.in-Some.ensures.steps
    c.loop-ordinal.invariant

pub returns : goal.returns
returns c =
    if_ok c.push_run-2.result _ _
    (λ e. runs_end _ _ _ c.args.start c.loop-ordinal.first c.loop-ordinal.last c.args.ordinals _ _ c.into_iter-ordinal-iterator.ensures.into_iter_gives
    c.in-None.ensures.steps.0 c.loop-ordinal.invariant e) c.push_run-2.ensures
