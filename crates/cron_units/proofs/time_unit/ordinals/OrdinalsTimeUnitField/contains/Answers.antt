use Rattle.std.proofs.Common.{◌≡◌, ℕ, ◌-◌, Bool, ◌&&◌, sym, ap, ◌∙◌, arith}
use Rattle.std.proofs.lemmas.Bool.{le-leb, lt-leb}
use Rattle.cron_units.proofs.Laid.{holds}
use Rattle.cron_units.proofs.time_unit.ordinals.OrdinalsTimeUnitField.contains.Goals as goal

pub returns-then-ordinal-least : goal.returns-then-ordinal-least
returns-then-ordinal-least g c =
    let u = g.U.UnitTable.unit in
    let low : c.least-least.result ≡ u.least = c.least-least.ensures in
    let at : c.args.ordinal - c.least-least.result ≡ c.args.ordinal - u.least = ap (λ (n : ℕ). c.args.ordinal - n) low in
    let held = holds u (g.W.Words.has c.self.inside.words) c.args.self.now c.args.ordinal g.met.U.UnitTable.is_unit.ordered c.self.invariant.none_past
    c.self.view_is in
    c.contains.ensures ∙ (ap (g.W.Words.has c.self.inside.words) at
    ∙ (sym (ap (λ (b : Bool). b && g.W.Words.has c.self.inside.words (c.args.ordinal - u.least)) (le-leb u.least c.args.ordinal (omega arith)))
    ∙ sym held))

pub returns-else-ordinal-least : goal.returns-else-ordinal-least
returns-else-ordinal-least g c =
    let u = g.U.UnitTable.unit in
    let low : c.least-least.result ≡ u.least = c.least-least.ensures in
    let held = holds u (g.W.Words.has c.self.inside.words) c.args.self.now c.args.ordinal g.met.U.UnitTable.is_unit.ordered c.self.invariant.none_past
    c.self.view_is in
    lt-leb c.least-least.result c.args.ordinal c.if-ordinal-least.false
    ∙ (sym (ap (λ (b : Bool). b && g.W.Words.has c.self.inside.words (c.args.ordinal - u.least)) (lt-leb u.least c.args.ordinal (omega arith)))
    ∙ sym held)
