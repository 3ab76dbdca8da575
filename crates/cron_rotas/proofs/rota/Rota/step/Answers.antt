use Rattle.std.proofs.Common.{rules, ◌≡◌, ℕ, ◌+◌, ◌<◌, ◌≤ℤ◌, FitsSigned, w64, to_z-of_z, sym, ap, ◌∙◌, subst, arith}
use Rattle.std.specs.Prelude.{unwrap_or}
use Rattle.std.proofs.lemmas.Int.{ints}
use Rattle.cron_stretches.specs.Fires.{instants}
use Rattle.cron_rotas.specs.Rotas.{person_at, swapped, turn_at}
use Rattle.cron_rotas.specs.Steps.{IsStep}
use Rattle.cron_rotas.proofs.ChoiceLemmas.{below-of, later-of, step-of, turn-after, turn-start}
use Rattle.cron_rotas.proofs.DutyLemmas.{person-below, some_people}
use Rattle.cron_rotas.proofs.rota.Rota.step.Goals as goal

pub turn_on-requires-clause-instants : goal.turn_on-requires-clause-instants
turn_on-requires-clause-instants g c =
    let fits-second : FitsSigned w64 c.args.turn.second = search rules in
    let fits-to : FitsSigned w64 c.args.to = search rules in
    let fits-edge : FitsSigned w64 c.next_edge-edge.result = search rules in
    let fits-end : FitsSigned w64 c.earlier_of.result = search rules in
    let is_next = rw (to_z-of_z fits-second) at c.next_fire-handover.ensures in
    let is_edge = rw (to_z-of_z fits-second, to_z-of_z fits-to) at c.next_edge-edge.ensures in
    let which = rw (to_z-of_z fits-edge) at c.earlier_of.ensures.is in
    let within = rw (to_z-of_z fits-edge) at c.earlier_of.ensures.within in
    let later = later-of (instants g.R.Rule.at (g.R.Rule.fires (g.S.CivilSeconds.has c.self.inside.handovers) c.self.inside.clock.now)) c.args.turn.second c.next_edge-edge.result
    c.earlier_of.result c.next_fire-handover.result is_next is_edge.0 which in
    rw (to_z-of_z fits-end)
    (c.requires.instants.0, (omega (arith, ints, later, c.requires.instants.0.0), omega (arith, ints, within, is_edge.1, c.requires.instants.1.1)))

pub returns-clause-step : goal.returns-clause-step
returns-clause-step g c =
    let fits-second : FitsSigned w64 c.args.turn.second = search rules in
    let fits-to : FitsSigned w64 c.args.to = search rules in
    let fits-edge : FitsSigned w64 c.next_edge-edge.result = search rules in
    let fits-end : FitsSigned w64 c.earlier_of.result = search rules in
    let is_next = rw (to_z-of_z fits-second) at c.next_fire-handover.ensures in
    let is_edge = rw (to_z-of_z fits-second, to_z-of_z fits-to) at c.next_edge-edge.ensures in
    let which = rw (to_z-of_z fits-edge) at c.earlier_of.ensures.is in
    let within = rw (to_z-of_z fits-edge) at c.earlier_of.ensures.within in
    let end : c.turn_on.result.second ≡ c.earlier_of.result = rw (to_z-of_z fits-end) at c.turn_on.ensures.second in
    rw end
    (subst (λ d. d.start ≤ℤ c.args.turn.second → IsStep d c.args.turn.second c.args.to c.earlier_of.result) c.self.view_is
    (λ low. step-of
    (record {
      people = c.self.inside.people;
      start = c.self.inside.start;
      handovers = instants g.R.Rule.at (g.R.Rule.fires (g.S.CivilSeconds.has c.self.inside.handovers) c.self.inside.clock.now);
      swaps = c.self.inside.swaps.now;
    })
    c.args.turn.second c.args.to c.next_edge-edge.result c.earlier_of.result c.next_fire-handover.result low is_edge is_next within c.earlier_of.ensures.first which) c.requires.start)

pub returns-clause-is : goal.returns-clause-is
returns-clause-is g c =
    let fits-end : FitsSigned w64 c.earlier_of.result = search rules in
    let end : c.turn_on.result.second ≡ c.earlier_of.result = rw (to_z-of_z fits-end) at c.turn_on.ensures.second in
    let is = rw (to_z-of_z fits-end) at c.turn_on.ensures.is in
    rw end is
