use Rattle.std.proofs.Common.{rules, ◌≡◌, ℕ, ◌+◌, ◌<◌, ◌≤ℤ◌, FitsSigned, w64, to_z-of_z, sym, ap, ◌∙◌, subst, arith}
use Rattle.std.specs.Prelude.{unwrap_or}
use Rattle.std.proofs.lemmas.Int.{ints}
use Rattle.cron_stretches.specs.Fires.{instants}
use Rattle.cron_rotas.specs.Rotas.{person_at, swapped, turn_at}
use Rattle.cron_rotas.specs.Steps.{IsStep}
use Rattle.cron_rotas.proofs.ChoiceLemmas.{below-of, later-of, step-of, turn-after, turn-start}
use Rattle.cron_rotas.proofs.DutyLemmas.{person-below, some_people}
use Rattle.cron_rotas.proofs.rota.Rota.turn_at.Goals as goal

pub turn_on-requires-clause-is : goal.turn_on-requires-clause-is
turn_on-requires-clause-is g c =
    let fits-start : FitsSigned w64 c.self.inside.start = search rules in
    rw (to_z-of_z fits-start)
    (subst (λ d. 0 ≡ turn_at d c.self.inside.start) c.self.view_is (turn-start
    (record {
      people = c.self.inside.people;
      start = c.self.inside.start;
      handovers = instants g.R.Rule.at (g.R.Rule.fires (g.S.CivilSeconds.has c.self.inside.handovers) c.self.inside.clock.now);
      swaps = c.self.inside.swaps.now;
    })))
