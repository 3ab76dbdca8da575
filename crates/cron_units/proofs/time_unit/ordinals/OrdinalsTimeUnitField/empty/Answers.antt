use Rattle.std.proofs.Common.{◌∙◌}
use Rattle.cron_units.proofs.PlaceLemmas.{placed_none}
use Rattle.cron_units.proofs.time_unit.ordinals.OrdinalsTimeUnitField.empty.Goals as goal

pub returns-clause-members : goal.returns-clause-members
returns-clause-members g c = c.from_words.ensures ∙ placed_none g.U.UnitTable.unit (g.W.Words.has c.none.result) c.none.ensures.bits
