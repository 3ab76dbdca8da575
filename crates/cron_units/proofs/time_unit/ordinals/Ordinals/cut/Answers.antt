use Rattle.std.proofs.Common.{◌∙◌}
use Rattle.cron_units.proofs.Cuts.{cut_past, cut_set}
use Rattle.cron_units.proofs.time_unit.ordinals.Ordinals.cut.Goals as goal

pub from_words-requires-clause-none_past : goal.from_words-requires-clause-none_past
from_words-requires-clause-none_past g c =
    cut_past g.U.UnitTable.unit (g.W.Words.has c.args.words) (g.W.Words.has c.below.result) c.greatest.result c.least.result
    g.met.U.UnitTable.is_unit.ordered c.greatest.ensures c.least.ensures c.below.ensures.bits

pub returns : goal.returns
returns g c =
    c.from_words.ensures ∙ cut_set g.U.UnitTable.unit (g.W.Words.has c.args.words) (g.W.Words.has c.below.result) c.greatest.result c.least.result
    c.greatest.ensures c.least.ensures c.below.ensures.bits
