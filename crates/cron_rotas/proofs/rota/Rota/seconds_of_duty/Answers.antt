use Rattle.std.proofs.Common.{rules, ◌≡◌, ◌+◌, ◌<◌, ◌^◌, ◌-ℤ◌, cond, nat_eq, FitsSigned, w64, to_z, of_z, to_z-of_z, arith}
use Rattle.std.proofs.lemmas.Int.{ints, clamps}
use Rattle.cron_stretches.specs.Fires.{second_of}
use Rattle.cron_rotas.specs.Rotas.{person_at}
use Rattle.cron_rotas.proofs.DutyLemmas.{duty-first, duty-none}
use Rattle.cron_rotas.proofs.SecondLemmas.{count-fits, fewer}
use Rattle.cron_rotas.proofs.rota.Rota.seconds_of_duty.Goals as goal

pub loop-turn-init : goal.loop-turn-init
loop-turn-init g c = (
  c.turn_from-turn.ensures.instant,
  omega (arith, ints, clamps, c.turn_from-turn.ensures.second),
  c.turn_from-turn.ensures.is,
  c.turn_from-turn.ensures.instant,
  omega (arith, ints),
  omega arith,
)

pub overflow_add-seconds : goal.overflow_add-seconds
overflow_add-seconds g c =
    let fits-to : FitsSigned w64 c.second_of-to.result = search rules in
    let fits-place : FitsSigned w64 c.loop-turn.turn.second = search rules in
    let fits-end : FitsSigned w64 c.shift_end-end.result.second = search rules in
    let shift = rw (to_z-of_z fits-to) at c.shift_end-end.ensures.shift in
    let step = duty-first c.args.self.now c.person-here.result c.args.person c.loop-turn.turn.second c.second_of-to.result c.shift_end-end.result.second shift in
    let inv = rw (to_z-of_z fits-to) at c.loop-turn.invariant in
    let few = count-fits (λ t. nat_eq (person_at c.args.self.now t) c.args.person) c.turn_from-turn.result.second c.second_of-to.result c.turn_from-turn.ensures.instant c.second_of-to.ensures.in_range in
    let length = rw (to_z-of_z fits-place, to_z-of_z fits-end) at c.length_if-seconds.ensures in
    omega (arith, step, few, inv.5, length)

pub loop-turn-preserved : goal.loop-turn-preserved
loop-turn-preserved g c =
    let fits-to : FitsSigned w64 c.second_of-to.result = search rules in
    let fits-place : FitsSigned w64 c.loop-turn.turn.second = search rules in
    let fits-end : FitsSigned w64 c.shift_end-end.result.second = search rules in
    let shift = rw (to_z-of_z fits-to) at c.shift_end-end.ensures.shift in
    let step = duty-first c.args.self.now c.person-here.result c.args.person c.loop-turn.turn.second c.second_of-to.result c.shift_end-end.result.second shift in
    let inv = rw (to_z-of_z fits-to) at c.loop-turn.invariant in
    let length = rw (to_z-of_z fits-place, to_z-of_z fits-end) at c.length_if-seconds.ensures in
    rw (to_z-of_z fits-to) (
      (omega (arith, ints, inv.0.0, shift.later), omega (arith, ints, shift.within, c.second_of-to.ensures.in_range.1)),
      omega (arith, ints, inv.1, shift.later),
      c.shift_end-end.ensures.is,
      inv.3,
      omega (arith, ints, inv.4, shift.later),
      omega (arith, step, inv.5, length),
    )

pub returns : goal.returns
returns g c =
    let fits-to : FitsSigned w64 c.second_of-to.result = search rules in
    let inv = rw (to_z-of_z fits-to, c.second_of-to.ensures.second, c.turn_from-turn.ensures.second) at c.loop-turn.invariant in
    let none = duty-none c.args.self.now c.loop-turn.turn.second (second_of c.args.to.nanosecond) c.args.person (omega (arith, ints, c.second_of-to.ensures.second, c.loop-turn-test.false)) in
    omega (arith, none, inv.5)

pub loop-turn-smaller : goal.loop-turn-smaller
loop-turn-smaller g c =
    let fits-to : FitsSigned w64 c.second_of-to.result = search rules in
    let shift = rw (to_z-of_z fits-to) at c.shift_end-end.ensures.shift in
    fewer c.loop-turn.turn.second c.shift_end-end.result.second (to_z w64 (of_z w64 c.second_of-to.result)) (omega (arith, ints, shift.later)) (omega (arith, ints, shift.within))
