use Rattle.std.proofs.Common.{subst}
use Rattle.cron_units.specs.Units.{IsSet}
use Rattle.cron_units.proofs.PlaceLemmas.{placed_set}
use Rattle.cron_units.proofs.time_unit.ordinals.OrdinalsTimeUnitField.state_facts.Goals as goal

pub returns : goal.returns
returns g c =
    let u = g.U.UnitTable.unit in
    subst (IsSet u) c.self.view_is (placed_set u (g.W.Words.has c.self.inside.words))
