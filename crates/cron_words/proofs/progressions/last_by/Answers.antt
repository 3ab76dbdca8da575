use Rattle.std.proofs.Common.{◌∙◌, refl, sym}
use Rattle.cron_words.proofs.ProgressionLemmas.{going_on}
use Rattle.cron_words.proofs.progressions.last_by.Goals as goal

pub loop-ordinal-init : goal.loop-ordinal-init
loop-ordinal-init c = record { steady = refl; end = refl }

pub loop-ordinal-preserved : goal.loop-ordinal-preserved
loop-ordinal-preserved c =
    going_on c.args.step c.args.start c.loop-ordinal.last c.in-Some.ordinal _ _ _ (sym c.is_step.ensures ∙ c.if-not-is_step.false) c.in-Some.ensures.steps
    c.loop-ordinal.invariant
