use Rattle.std.proofs.Common.{◌∙◌, subst}
use Rattle.cron_units.specs.Steps.{Progression}
use Rattle.cron_units.specs.Units.{IsSet}
use Rattle.cron_units.proofs.PlaceLemmas.{placed_set}
use Rattle.cron_units.proofs.Laid.{range_past}
use Rattle.cron_units.proofs.Progressions.{steps_more, steps_empty}
use Rattle.cron_units.proofs.time_unit.ordinals.OrdinalsTimeUnitField.insert_steps.Goals as goal

pub from_words-requires-clause-none_past : goal.from_words-requires-clause-none_past
from_words-requires-clause-none_past g c =
    let w = g.W.Words in
    range_past g.U.UnitTable.unit (w.has c.self.inside.words) (w.has c.every_nth.result) (w.has c.below-steps.result) (w.has c.join.result) c.args.last
    c.least-least.result c.self.invariant.none_past g.met.U.UnitTable.is_unit.ordered c.least-least.ensures c.requires.high c.below-steps.ensures.bits
    c.join.ensures.bits

pub returns-then-first-last-clause-members : goal.returns-then-first-last-clause-members
returns-then-first-last-clause-members g c =
    let w = g.W.Words in
    let s : Progression = record { first = c.args.first; last = c.args.last; every = c.args.every } in
    c.self-then-first-last.view_is ∙ (c.from_words.ensures
    ∙ steps_more g.U.UnitTable.unit (w.has c.self.inside.words) (w.has c.every_nth.result) (w.has c.below-steps.result) (w.has c.join.result)
    c.args.self.now s c.least-least.result w.size c.self.view_is c.least-least.ensures c.requires.low c.if-first-last.true g.met.U.UnitTable.fits
    c.every_nth.ensures.bits c.below-steps.ensures.bits c.join.ensures.bits)

pub returns-else-first-last-clause-members : goal.returns-else-first-last-clause-members
returns-else-first-last-clause-members g c =
    let u = g.U.UnitTable.unit in
    let s : Progression = record { first = c.args.first; last = c.args.last; every = c.args.every } in
    let set : IsSet u c.args.self.now = subst (IsSet u) c.self.view_is (placed_set u (g.W.Words.has c.self.inside.words)) in
    steps_empty u c.args.self.now s set c.if-first-last.false
