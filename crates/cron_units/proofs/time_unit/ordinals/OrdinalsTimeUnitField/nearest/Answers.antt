use Rattle.std.proofs.Common.{◌≡◌, ◌+◌, ◌-◌, min, arith}
use Rattle.cron_units.proofs.Laid.{ahead_none, ahead_some, back_before, back_none, back_some}
use Rattle.cron_units.proofs.time_unit.ordinals.OrdinalsTimeUnitField.nearest.Goals as goal

pub returns-in_err-place-in-Ahead-clause-nearest : goal.returns-in_err-place-in-Ahead-clause-nearest
returns-in_err-place-in-Ahead-clause-nearest g c =
    let u = g.U.UnitTable.unit in
    let w = g.W.Words in
    let start : c.saturating_sub.result ≡ c.args.from - u.least = omega (arith, c.least-least.ensures) in
    rw (c.in-Ahead.is, c.from_residual.ensures)
    (ahead_none u (w.has c.self.inside.words) (w.has c.at_least.result) c.args.self.now c.args.from c.saturating_sub.result
    g.met.U.UnitTable.is_unit.ordered c.self.invariant.none_past c.self.view_is start c.at_least.ensures.bits c.in_err-place-in-Ahead.ensures)

pub returns-in_ok-place-in-Ahead-clause-nearest : goal.returns-in_ok-place-in-Ahead-clause-nearest
returns-in_ok-place-in-Ahead-clause-nearest g c =
    let u = g.U.UnitTable.unit in
    let w = g.W.Words in
    let start : c.saturating_sub.result ≡ c.args.from - u.least = omega (arith, c.least-least.ensures) in
    let at : c.least-least.result + c.in_ok-place-in-Ahead.place ≡ u.least + c.in_ok-place-in-Ahead.place = omega (arith, c.least-least.ensures) in
    rw c.in-Ahead.is
    (ahead_some u (w.has c.self.inside.words) (w.has c.at_least.result) c.args.self.now c.args.from c.saturating_sub.result
    (c.least-least.result + c.in_ok-place-in-Ahead.place) c.in_ok-place-in-Ahead.place g.met.U.UnitTable.is_unit.ordered c.self.invariant.none_past
    c.self.view_is start at c.at_least.ensures.bits c.in_ok-place-in-Ahead.ensures.1 c.in_ok-place-in-Ahead.ensures.2)

pub returns-in_err-place-in-Back-2-clause-nearest : goal.returns-in_err-place-in-Back-2-clause-nearest
returns-in_err-place-in-Back-2-clause-nearest g c =
    let u = g.U.UnitTable.unit in
    let w = g.W.Words in
    let end : c.min.result - c.least-least.result + 1 ≡ min c.args.from u.greatest - u.least + 1 = omega (
      arith,
      c.least-least.ensures,
      c.greatest.ensures,
      c.min.ensures,
    ) in
    rw (c.in-Back.is, c.from_residual-in_err-place-in-Back-2.ensures)
    (back_none u (w.has c.self.inside.words) (w.has c.below.result) c.args.self.now c.args.from (c.min.result - c.least-least.result + 1)
    g.met.U.UnitTable.is_unit.ordered c.self.invariant.none_past c.self.view_is (omega (arith, c.least-least.ensures)) end c.below.ensures.bits
    c.in_err-place-in-Back-2.ensures)

pub returns-in_ok-place-in-Back-2-clause-nearest : goal.returns-in_ok-place-in-Back-2-clause-nearest
returns-in_ok-place-in-Back-2-clause-nearest g c =
    let u = g.U.UnitTable.unit in
    let w = g.W.Words in
    let end : c.min.result - c.least-least.result + 1 ≡ min c.args.from u.greatest - u.least + 1 = omega (
      arith,
      c.least-least.ensures,
      c.greatest.ensures,
      c.min.ensures,
    ) in
    let at : c.least-least.result + c.in_ok-place-in-Back-2.place ≡ u.least + c.in_ok-place-in-Back-2.place = omega (arith, c.least-least.ensures) in
    rw c.in-Back.is
    (back_some u (w.has c.self.inside.words) (w.has c.below.result) c.args.self.now c.args.from (c.min.result - c.least-least.result + 1)
    (c.least-least.result + c.in_ok-place-in-Back-2.place) c.in_ok-place-in-Back-2.place g.met.U.UnitTable.is_unit.ordered c.self.invariant.none_past
    c.self.view_is (omega (arith, c.least-least.ensures)) end at c.below.ensures.bits c.in_ok-place-in-Back-2.ensures.1
    c.in_ok-place-in-Back-2.ensures.2)

pub returns-in-Back-clause-nearest : goal.returns-in-Back-clause-nearest
returns-in-Back-clause-nearest g c =
    let u = g.U.UnitTable.unit in
    rw c.in-Back.is
    (back_before u (g.W.Words.has c.self.inside.words) c.args.self.now c.args.from g.met.U.UnitTable.is_unit.ordered c.self.invariant.none_past
    c.self.view_is (omega (arith, c.least-least.ensures)))
