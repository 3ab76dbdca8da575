use Rattle.std.proofs.Common.{◌∙◌}
use Rattle.cron_units.proofs.Laid.{placed_count}
use Rattle.cron_units.proofs.time_unit.ordinals.OrdinalsTimeUnitField.len.Goals as goal

pub returns : goal.returns
returns g c =
    c.count.ensures.value ∙ placed_count g.U.UnitTable.unit (g.W.Words.has c.self.inside.words) c.args.self.now g.W.Words.size
    g.met.U.UnitTable.is_unit.ordered c.self.invariant.none_past g.met.U.UnitTable.fits c.self.view_is
