use Rattle.std.proofs.Common.{rules, ◌≡◌, ℕ, suc, ◌+◌, ◌%◌, length, pos, ◌*ℤ◌, FitsSigned, w64, to_z-of_z, sym, ap, ◌∙◌, arith}
use Rattle.jiff_core.specs.Timestamp.{nanos_of_seconds}
use Rattle.cron_seconds.specs.Rules.{all_between}
use Rattle.cron_stretches.specs.Fires.{instants}
use Rattle.cron_rotas.specs.Rotas.{handovers_in}
use Rattle.cron_rotas.proofs.ChoiceLemmas.{below-of, turn-last, turn-step}
use Rattle.cron_rotas.proofs.TurnLemmas.{run-count}
use Rattle.cron_rotas.proofs.rota.turn_after.Goals as goal

pub loop-init : goal.loop-init
loop-init g c =
    let fits-second : FitsSigned w64 c.args.turn.second = search rules in
    let fits-to : FitsSigned w64 c.args.to = search rules in
    let last : c.instant_at-last.result.nanosecond ≡ c.args.turn.second *ℤ pos 1_000_000_000 = rw (to_z-of_z fits-second) at c.instant_at-last.ensures in
    let now : c.instant_at-now.result.nanosecond ≡ c.args.to *ℤ pos 1_000_000_000 = rw (to_z-of_z fits-to) at c.instant_at-now.ensures in
    let all = rw (last, now) at c.between-items.ensures in
    let count = run-count g.R.Rule.at c.args.turn.second c.args.to (g.R.Rule.fires (g.S.CivilSeconds.has c.args.handovers.now) c.args.clock.now) in
    let into = c.into_iter-iterator.ensures.into_iter_gives in
    let whole : length c.into_iter-iterator.result ≡ handovers_in (instants g.R.Rule.at (g.R.Rule.fires (g.S.CivilSeconds.has c.args.handovers.now) c.args.clock.now)) c.args.turn.second c.args.to = cc in
    rw (to_z-of_z fits-to) (c.requires.below, ap (λ (k : ℕ). (c.args.turn.person + k) % c.args.people) whole)

pub loop-preserved : goal.loop-preserved
loop-preserved g c =
    let more : length c.loop.iterator' ≡ suc (length c.next.new.self) = ap length c.in-Some.ensures.steps in (
      below-of (c.loop.person + 1) c.args.people c.next_person-person.result (omega (arith, c.loop.invariant.0)) c.next_person-person.ensures,
      turn-step c.args.people c.loop.person c.next_person-person.result (length c.next.new.self) (length c.loop.iterator') _ c.next_person-person.ensures more c.loop.invariant.1,
    )

pub returns : goal.returns
returns g c =
    let fits-to : FitsSigned w64 c.args.to = search rules in
    let none : length c.loop.iterator' ≡ 0 = ap length c.in-None.ensures.steps.0 in
    let inv = rw (to_z-of_z fits-to) at c.loop.invariant in
    turn-last c.args.people c.loop.person (length c.loop.iterator') _ inv.0 none inv.1
