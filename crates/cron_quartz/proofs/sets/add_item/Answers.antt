use Rattle.std.proofs.Common.{◌∙◌, refl, sym, arith}
use Rattle.cron_quartz.specs.Items.{lies_in}
use Rattle.cron_quartz.specs.Views.{item_view}
use Rattle.cron_quartz.proofs.SetLemmas.{all_below, none_below, one_inserted, one_passed}
use Rattle.cron_quartz.proofs.sets.add_item.Goals as goal
use Rattle.cron_quartz.proofs.sets.add_item.Goals.{then-lies_in, else-lies_in}

pub loop-number-init : goal.loop-number-init
loop-number-init g c =
    let field = g.T.TimeUnitField in
    (rw c.inclusive_min-number.ensures (none_below field.unit (lies_in field.unit (item_view c.args.item)) (field.members c.args.set.now) c.state_facts.ensures), refl)

pub loop-number-preserved : goal.loop-number-preserved
loop-number-preserved g c =
    let field = g.T.TimeUnitField in
    let old = field.members c.args.set.now in
    let set = field.members c.loop-number.set in
    elim c.if-lies_in.branch [
      | then-lies_in w ↦ (
        rw w.set-is
            (w.insert.ensures.members
            ∙ one_inserted field.unit (lies_in field.unit (item_view c.args.item)) old set c.loop-number.number (c.loop-number.invariant.0) (sym c.lies_in.ensures ∙ w.if-lies_in.true)),
        rw w.set-is (w.insert.ensures.mark ∙ c.loop-number.invariant.1),
      )
      | else-lies_in w ↦ (
        rw w.set-is (one_passed field.unit (lies_in field.unit (item_view c.args.item)) old set c.loop-number.number (c.loop-number.invariant.0) (sym c.lies_in.ensures ∙ w.if-lies_in.false)),
        rw w.set-is (c.loop-number.invariant.1),
      )
    ]

pub returns-clause-members : goal.returns-clause-members
returns-clause-members g c =
    let field = g.T.TimeUnitField in
    all_below field.unit (lies_in field.unit (item_view c.args.item)) (field.members c.args.set.now) (field.members c.loop-number.set) c.loop-number.number (c.loop-number.invariant.0)
    (let most = c.inclusive_max-number-end.ensures in omega arith)
