use Rattle.cron_units.proofs.PlaceLemmas.{laid_out}
use Rattle.cron_units.proofs.time_unit.ordinals.Ordinals.from_words.Goals as goal

pub invariant_of-result : goal.invariant_of-result
invariant_of-result g c =
    laid_out g.U.UnitTable.unit g.W.Words.IsFit g.W.Words.has g.W.Words.made c.args.words g.met.U.UnitTable.is_unit.ordered
    (g.met.W.Words.remade c.args.words) c.requires.fit c.requires.none_past
