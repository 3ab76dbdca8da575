use Rattle.std.proofs.Common.{◌+◌, ◌-◌, ◌∙◌, subst}
use Rattle.cron_units.specs.Units.{IsSet}
use Rattle.cron_units.proofs.PlaceLemmas.{placed_set}
use Rattle.cron_units.proofs.Laid.{range_bits, range_past, range_more, range_empty}
use Rattle.cron_units.proofs.time_unit.ordinals.OrdinalsTimeUnitField.insert_range.Goals as goal

pub from_words-requires-clause-none_past : goal.from_words-requires-clause-none_past
from_words-requires-clause-none_past g c =
    let w = g.W.Words in
    range_past g.U.UnitTable.unit (w.has c.self.inside.words) (w.has c.at_least.result) (w.has c.below-range.result) (w.has c.join.result) c.args.last
    c.least-least.result c.self.invariant.none_past g.met.U.UnitTable.is_unit.ordered c.least-least.ensures c.requires.high c.below-range.ensures.bits
    c.join.ensures.bits

pub returns-then-first-last-clause-members : goal.returns-then-first-last-clause-members
returns-then-first-last-clause-members g c =
    let w = g.W.Words in
    let bits = range_bits (c.args.first - c.least-least.result) (c.args.last - c.least-least.result + 1) w.size (w.has c.full.result)
    (w.has c.at_least.result) (w.has c.below-range.result) c.full.ensures.bits c.at_least.ensures.bits c.below-range.ensures.bits in
    c.self-then-first-last.view_is ∙ (c.from_words.ensures
    ∙ range_more g.U.UnitTable.unit (w.has c.self.inside.words) (w.has c.below-range.result) (w.has c.join.result) c.args.self.now c.args.first
    c.args.last c.least-least.result w.size c.self.view_is c.least-least.ensures c.requires.low c.if-first-last.true g.met.U.UnitTable.fits bits
    c.join.ensures.bits)

pub returns-else-first-last-clause-members : goal.returns-else-first-last-clause-members
returns-else-first-last-clause-members g c =
    let u = g.U.UnitTable.unit in
    let set : IsSet u c.args.self.now = subst (IsSet u) c.self.view_is (placed_set u (g.W.Words.has c.self.inside.words)) in
    range_empty u c.args.self.now c.args.first c.args.last set c.if-first-last.false
