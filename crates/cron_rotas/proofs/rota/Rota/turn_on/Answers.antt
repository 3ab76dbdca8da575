use Rattle.std.proofs.Common.{rules, ◌≡◌, ℕ, ◌+◌, ◌<◌, ◌≤ℤ◌, FitsSigned, w64, to_z-of_z, sym, ap, ◌∙◌, subst, arith}
use Rattle.std.specs.Prelude.{unwrap_or}
use Rattle.std.proofs.lemmas.Int.{ints}
use Rattle.cron_stretches.specs.Fires.{instants}
use Rattle.cron_rotas.specs.Rotas.{person_at, swapped, turn_at}
use Rattle.cron_rotas.specs.Steps.{IsStep}
use Rattle.cron_rotas.proofs.ChoiceLemmas.{below-of, later-of, step-of, turn-after, turn-start}
use Rattle.cron_rotas.proofs.DutyLemmas.{person-below, some_people}
use Rattle.cron_rotas.proofs.rota.Rota.turn_on.Goals as goal

pub turn_after-requires-clause-below : goal.turn_after-requires-clause-below
turn_after-requires-clause-below g c =
    subst (λ d. c.args.turn.person ≡ turn_at d c.args.turn.second → c.args.turn.person < c.self.inside.people) c.self.view_is
    (λ h. below-of _ c.self.inside.people c.args.turn.person (some_people c.self.inside.people c.self.inside.swaps.now c.self.invariant.1) h) c.requires.is

pub returns-clause-is : goal.returns-clause-is
returns-clause-is g c =
    let fits-to : FitsSigned w64 c.args.to = search rules in
    let after = rw (to_z-of_z fits-to) at c.turn_after.ensures in
    subst (λ d. c.args.turn.person ≡ turn_at d c.args.turn.second → d.start ≤ℤ c.args.turn.second → c.turn_after.result ≡ turn_at d c.args.to) c.self.view_is
    (λ h low. after ∙ turn-after
    (record {
      people = c.self.inside.people;
      start = c.self.inside.start;
      handovers = instants g.R.Rule.at (g.R.Rule.fires (g.S.CivilSeconds.has c.self.inside.handovers) c.self.inside.clock.now);
      swaps = c.self.inside.swaps.now;
    })
    c.args.turn.second c.args.to c.args.turn.person low c.requires.later h) c.requires.is c.requires.start
