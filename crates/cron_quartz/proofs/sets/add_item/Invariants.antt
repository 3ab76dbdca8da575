use Rattle.std.proofs.Common.{◌≡◌}
use Rattle.cron_units.specs.Units.{set_of}
use Rattle.cron_quartz.specs.Items.{lies_in}
use Rattle.cron_quartz.specs.Views.{item_view}
use Rattle.cron_quartz.proofs.SetLemmas.{below}
use Rattle.cron_quartz.proofs.sets.add_item.Given as goal

abbrev pub invariant-loop-number : goal.invariant-loop-number
invariant-loop-number g l =
    let field = g.T.TimeUnitField in
    (field.members l.set ≡ set_of field.unit (below (lies_in field.unit (item_view l.item)) (field.members l.initial.set) l.number))
    × (field.marked l.set ≡ field.marked l.initial.set)
