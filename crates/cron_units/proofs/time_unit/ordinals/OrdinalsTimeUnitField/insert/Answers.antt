use Rattle.std.proofs.Common.{◌∙◌}
use Rattle.cron_units.proofs.Laid.{one_more, one_more_past}
use Rattle.cron_units.proofs.time_unit.ordinals.OrdinalsTimeUnitField.insert.Goals as goal

pub from_words-requires-clause-none_past : goal.from_words-requires-clause-none_past
from_words-requires-clause-none_past g c =
    one_more_past g.U.UnitTable.unit (g.W.Words.has c.self.inside.words) (g.W.Words.has c.with.result) c.args.ordinal c.least.result
    c.self.invariant.none_past c.least.ensures c.requires.low c.requires.high c.with.ensures.bits

pub returns-clause-members : goal.returns-clause-members
returns-clause-members g c =
    c.self-2.view_is ∙ (c.from_words.ensures ∙ one_more g.U.UnitTable.unit (g.W.Words.has c.self.inside.words) (g.W.Words.has c.with.result) c.args.self.now
    c.args.ordinal c.least.result c.self.view_is c.least.ensures c.requires.low c.with.ensures.bits)
