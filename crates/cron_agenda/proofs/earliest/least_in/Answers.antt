use Rattle.std.proofs.Common.{◌+◌, refl, sym, subst, arith, get_or, min, ap, ◌∙◌}
use Rattle.cron_agenda.specs.Inner.Tree.{IsLeastIn, without}
use Rattle.cron_agenda.proofs.LeastLemmas.{least_both, least_none, least_one, least_to}
use Rattle.cron_agenda.proofs.earliest.least_in.Goals as goal

pub loop-at-init : goal.loop-at-init
loop-at-init c = (least_none _ _, λ j low high. absurd (omega arith))

pub loop-at-preserved : goal.loop-at-preserved
loop-at-preserved c =
    let words = without c.args.words.now c.args.left_out in
    let at = c.loop-at.at in (
      subst (IsLeastIn words c.args.first (at + 1)) (sym (c.min-least.ensures ∙ ap (min c.loop-at.least) c.word_but.ensures))
          (least_both (λ j. get_or words j 0) c.args.first at (at + 1) c.loop-at.least (get_or words at 0) (omega arith) (omega arith) c.loop-at.invariant.0
          (least_one (λ j. get_or words j 0) at (at + 1) refl)),
      λ j low high. omega arith,
    )

pub returns : goal.returns
returns c =
    least_to (without c.args.words.now c.args.left_out) c.args.first c.loop-at.at c.args.end c.loop-at.least (omega arith) c.loop-at.invariant.1 c.loop-at.invariant.0
