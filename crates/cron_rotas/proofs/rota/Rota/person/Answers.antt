use Rattle.std.proofs.Common.{rules, ◌≡◌, ℕ, ◌+◌, ◌<◌, ◌≤ℤ◌, FitsSigned, w64, to_z-of_z, sym, ap, ◌∙◌, subst, arith}
use Rattle.std.specs.Prelude.{unwrap_or}
use Rattle.std.proofs.lemmas.Int.{ints}
use Rattle.cron_stretches.specs.Fires.{instants}
use Rattle.cron_rotas.specs.Rotas.{person_at, swapped, turn_at}
use Rattle.cron_rotas.specs.Steps.{IsStep}
use Rattle.cron_rotas.proofs.ChoiceLemmas.{below-of, later-of, step-of, turn-after, turn-start}
use Rattle.cron_rotas.proofs.DutyLemmas.{person-below, some_people}
use Rattle.cron_rotas.proofs.rota.Rota.person.Goals as goal

pub returns-clause-below : goal.returns-clause-below
returns-clause-below g c =
    let fits-second : FitsSigned w64 c.args.turn.second = search rules in
    let own = rw (to_z-of_z fits-second) at c.swapped.ensures in
    subst (λ d. c.args.turn.person ≡ turn_at d c.args.turn.second → c.unwrap_or.result < d.people) c.self.view_is
    (λ h. subst (λ (p : ℕ). p < c.self.inside.people)
    (sym (c.unwrap_or.ensures ∙ ap (λ o. unwrap_or o c.args.turn.person) own
    ∙ ap (unwrap_or (swapped c.self.inside.swaps.now c.args.turn.second)) h))
    (person-below
    (record {
      people = c.self.inside.people;
      start = c.self.inside.start;
      handovers = instants g.R.Rule.at (g.R.Rule.fires (g.S.CivilSeconds.has c.self.inside.handovers) c.self.inside.clock.now);
      swaps = c.self.inside.swaps.now;
    })
    c.args.turn.second c.self.invariant.1)) c.requires
