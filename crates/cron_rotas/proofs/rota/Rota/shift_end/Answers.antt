use Rattle.std.proofs.Common.{rules, ◌≡◌, ◌<ℤ◌, ℤ, inr, FitsSigned, w64, to_z-of_z, sym, ap, ◌∙◌, arith}
use Rattle.std.proofs.lemmas.Int.{ints, by_lt_z}
use Rattle.cron_rotas.specs.Rotas.{person_at}
use Rattle.cron_rotas.proofs.ChoiceLemmas.{unlike-of}
use Rattle.cron_rotas.proofs.StepLemmas.{next-step}
use Rattle.cron_rotas.proofs.rota.Rota.shift_end.Goals as goal

pub returns-then-person-clause-shift : goal.returns-then-person-clause-shift
returns-then-person-clause-shift g c =
    let fits-to : FitsSigned w64 c.args.to = search rules in
    let inv = rw (to_z-of_z fits-to) at c.loop-end.invariant in
    let other : person_at c.args.self.now c.loop-end.end.second ≡ c.args.person → ⊥ =
    λ e. let same : c.person.result ≡ c.args.person = c.person.ensures.is ∙ e in absurd (omega (arith, c.if-person.true)) in
    let later : c.args.turn.second <ℤ c.loop-end.end.second =
    by_lt_z c.args.turn.second c.loop-end.end.second (λ less. less)
    (λ le.
    let same : c.loop-end.end.second ≡ c.args.turn.second = omega (arith, ints, inv.2) in
    absurd (other (ap (person_at c.args.self.now) same ∙ sym c.requires.person))) in
    record {
      later = later;
      within = inv.3;
      alike = inv.5;
      ends = inr (unlike-of (person_at c.args.self.now c.loop-end.end.second) c.args.person other);
    }

pub loop-end-preserved : goal.loop-end-preserved
loop-end-preserved g c =
    let fits-to : FitsSigned w64 c.args.to = search rules in
    let step = rw (to_z-of_z fits-to) at c.step-end.ensures.step in
    let inv = rw (to_z-of_z fits-to) at c.loop-end.invariant in
    let same : c.person.result ≡ c.args.person = omega (arith, c.if-person.false) in
    let here : person_at c.args.self.now c.loop-end.end.second ≡ c.args.person = sym c.person.ensures.is ∙ same in
    rw (to_z-of_z fits-to) (
      (omega (arith, ints, inv.0.0, step.later), omega (arith, ints, step.within, c.requires.instants.1.1)),
      omega (arith, ints, inv.1, step.later),
      omega (arith, ints, inv.2, step.later),
      step.within,
      c.step-end.ensures.is,
      next-step c.args.self.now c.args.person c.args.turn.second c.args.to c.loop-end.end.second c.step-end.result.second inv.5 here step,
    )
