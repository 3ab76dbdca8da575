use Rattle.std.proofs.Common.{◌∙◌, [], refl}
use Rattle.cron_quartz.specs.Views.{item_view}
use Rattle.cron_quartz.proofs.ItemLemmas.{item_read, last_read}
use Rattle.cron_quartz.proofs.SetLemmas.{none_read}
use Rattle.cron_quartz.proofs.sets.read_set.Goals as goal

pub loop-item-init : goal.loop-item-init
loop-item-init g c =
    let field = g.T.TimeUnitField in
    (record { done = []; before = refl; is = c.empty-set.ensures.members ∙ none_read field.unit }, c.empty-set.ensures.mark, c.utf8.word)

pub loop-item-preserved : goal.loop-item-preserved
loop-item-preserved g c =
    let field = g.T.TimeUnitField in
    let cut = rw c.in-Some.is at c.cut_at.ensures.pieces in (
      item_read field.unit c.args.word.now c.loop-item.rest.now c.cut_at.result.0.now c.in-Some.others.now (field.members c.loop-item.set)
          (field.members c.add_item.new.set) (item_view c.in-Ok.item) (c.loop-item.invariant.0) cut c.in-Ok.ensures.item c.add_item.ensures.members,
      c.add_item.ensures.mark ∙ c.loop-item.invariant.1,
      rw c.in-Some.is at c.cut_at.ensures.text,
    )

pub returns-in-None-clause-set : goal.returns-in-None-clause-set
returns-in-None-clause-set g c =
    let field = g.T.TimeUnitField in
    let cut = rw c.in-None.is at c.cut_at.ensures.pieces in
    last_read field.unit c.args.word.now c.loop-item.rest.now c.cut_at.result.0.now (field.members c.loop-item.set) (field.members c.add_item.new.set)
    (item_view c.in-Ok.item) (c.loop-item.invariant.0) cut c.in-Ok.ensures.item c.add_item.ensures.members
