use Rattle.std.proofs.Common.{◌∙◌}
use Rattle.cron_units.proofs.Remaining.{placed_wide}
use Rattle.cron_units.proofs.time_unit.ordinals.OrdinalsTimeUnitField.iterate.Goals as goal

pub returns : goal.returns
returns g c =
    c.new.ensures ∙ placed_wide g.U.UnitTable.unit (g.W.Words.has c.self.inside.words) _ c.args.self.now c.least.result 192
    g.met.U.UnitTable.is_unit.ordered c.self.invariant.none_past g.met.U.UnitTable.iterates c.self.view_is c.least.ensures c.widen.ensures.bits
