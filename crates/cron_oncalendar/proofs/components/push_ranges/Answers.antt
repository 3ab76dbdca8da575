use Rattle.std.proofs.Common.{sym, ◌∙◌, ◌∷◌, List, ℕ, subst}
use Rattle.std.proofs.lemmas.Bool.{eqb-true}
use Rattle.std.specs.String.{string_bytes}
use Rattle.cron_oncalendar.specs.Inner.Written.{AreRangesText, Pushes}
use Rattle.cron_oncalendar.proofs.RangeLemmas.{opened, goes_on, begins, ranges_end}
use Rattle.cron_oncalendar.proofs.PushLemmas.{if_ok}
use Rattle.cron_oncalendar.proofs.components.push_ranges.Goals as goal

pub loop-ordinal-init : goal.loop-ordinal-init
loop-ordinal-init c = opened c.args.spelling (string_bytes c.args.text.now) c.args.start c.into_iter-ordinal-iterator.result

pub loop-ordinal-preserved-in_ok-push_str : goal.loop-ordinal-preserved-in_ok-push_str
loop-ordinal-preserved-in_ok-push_str c =
    begins c.args.spelling _ _ _ _ c.loop-ordinal.first c.loop-ordinal.last c.in-Some.ordinal _ _ _ c.in-Some.ensures.steps c.in_ok-push_range.ensures
    c.in_ok-push_str.ensures.bytes c.loop-ordinal.invariant

pub loop-ordinal-preserved : goal.loop-ordinal-preserved
loop-ordinal-preserved c =
    goes_on c.args.spelling _ _ c.loop-ordinal.first c.loop-ordinal.last c.in-Some.ordinal _ _ _ (eqb-true _ _ (sym c.is_next.ensures ∙ c.if-not-is_next.false))
    c.in-Some.ensures.steps c.loop-ordinal.invariant

pub returns : goal.returns
returns c =
    if_ok c.push_range-2.result _ _
    (λ e. subst (λ (rest : List ℕ). Pushes (AreRangesText c.args.spelling (c.args.start ∷ rest)) (string_bytes c.args.text.now) (string_bytes c.push_range-2.new.text))
    c.into_iter-ordinal-iterator.ensures.into_iter_gives
    (ranges_end c.args.spelling _ _ _ c.loop-ordinal.first c.loop-ordinal.last _ _ c.in-None.ensures.steps.0 c.loop-ordinal.invariant e)) c.push_range-2.ensures
