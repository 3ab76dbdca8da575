use Rattle.std.proofs.Common.{◌∙◌, sym}
use Rattle.cron_quartz.specs.Views.{base_view}
use Rattle.cron_quartz.proofs.ItemLemmas.{with_named_step, with_two_steps}
use Rattle.cron_quartz.proofs.items.read_item.Goals as goal

pub returns-then-is_named-clause-item : goal.returns-then-is_named-clause-item
returns-then-is_named-clause-item g c =
    let cut = rw c.in-Some.is at c.cut_at.ensures.pieces in
    with_named_step g.T.TimeUnitField.unit c.args.text.now c.cut_at.result.0.now c.in-Some.rest.now (base_view c.in_ok-base.base) cut c.in_ok-base.ensures.base
    (sym c.is_named.ensures ∙ c.if-is_named.true)

pub returns-in-Some-more-clause-item : goal.returns-in-Some-more-clause-item
returns-in-Some-more-clause-item g c =
    let cut = rw c.in-Some.is at c.cut_at.ensures.pieces in
    let behind = rw c.in-Some-more.is at c.cut_at-2.ensures.pieces in
    with_two_steps g.T.TimeUnitField.unit c.args.text.now c.cut_at.result.0.now c.in-Some.rest.now c.cut_at-2.result.0.now c.in-Some-more.field-0.now
    (base_view c.in_ok-base.base) c.in_ok-every.every cut behind c.in_ok-base.ensures.base (sym c.is_named.ensures ∙ c.if-is_named.false) c.in_ok-every.ensures.step
