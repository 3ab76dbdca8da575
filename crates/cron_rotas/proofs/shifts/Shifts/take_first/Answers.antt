use Rattle.std.proofs.Common.{rules, ◌≡◌, [], ◌∷◌, FitsSigned, w64, to_z-of_z, sym, ap, ◌∙◌, arith}
use Rattle.std.proofs.lemmas.Int.{ints}
use Rattle.cron_rotas.proofs.DutyLemmas.{no_shifts, shift-first}
use Rattle.cron_rotas.proofs.shifts.Shifts.take_first.Goals as goal

pub returns-then-turn-self : goal.returns-then-turn-self
returns-then-turn-self g c =
    let none = sym c.self.view_is ∙ no_shifts c.self.inside.rota.now c.self.inside.turn.second c.self.inside.to (omega (arith, ints, c.if-turn-self.true)) in
    (none, none)

pub returns : goal.returns
returns g c =
    let fits-first : FitsSigned w64 c.self.inside.turn.second = search rules in
    let fits-to : FitsSigned w64 c.self.inside.to = search rules in
    let fits-end : FitsSigned w64 c.shift_end-end.result.second = search rules in
    let shift = rw (to_z-of_z fits-to) at c.shift_end-end.ensures.shift in
    rw (to_z-of_z fits-first, to_z-of_z fits-end)
    (sym c.self.view_is ∙ shift-first c.self.inside.rota.now c.person-value.result c.self.inside.turn.second c.self.inside.to c.shift_end-end.result.second shift)
