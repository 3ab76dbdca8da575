use Rattle.std.proofs.Common.{rules, ◌≡◌, ◌+◌, ◌<◌, ◌^◌, FitsSigned, w64, to_z, of_z, to_z-of_z, arith}
use Rattle.std.proofs.lemmas.Int.{ints}
use Rattle.cron_stretches.specs.Fires.{second_of}
use Rattle.cron_windows.specs.Windows.{is_open}
use Rattle.cron_windows.proofs.RunLemmas.{count-fits, count-none, count-of}
use Rattle.cron_windows.proofs.WindowLemmas.{fewer}
use Rattle.cron_windows.proofs.windows.Windows.open_seconds.Goals as goal

pub overflow_add-seconds : goal.overflow_add-seconds
overflow_add-seconds g c =
    let fits-from : FitsSigned w64 c.second_of-place.result = search rules in
    let fits-to : FitsSigned w64 c.second_of-to.result = search rules in
    let lasts = rw (to_z-of_z fits-to) at c.stretch_from-stretch.ensures.lasts in
    let step = count-of (is_open c.args.self.now) c.stretch_from-stretch.result (to_z w64 c.loop-place.place-bits) c.second_of-to.result c.stretch_from-stretch.ensures.first lasts in
    let inv = rw (to_z-of_z fits-to, to_z-of_z fits-from) at c.loop-place.invariant in
    let few = count-fits (is_open c.args.self.now) c.second_of-place.result c.second_of-to.result c.second_of-place.ensures.in_range c.second_of-to.ensures.in_range in
    omega (arith, step, few, inv.4, c.open_length-seconds.ensures)

pub loop-place-smaller : goal.loop-place-smaller
loop-place-smaller g c =
    let fits-to : FitsSigned w64 c.second_of-to.result = search rules in
    let fits-end : FitsSigned w64 c.stretch_from-stretch.result.end = search rules in
    let lasts = rw (to_z-of_z fits-to) at c.stretch_from-stretch.ensures.lasts in
    fewer (to_z w64 c.loop-place.place-bits) (to_z w64 (of_z w64 c.stretch_from-stretch.result.end)) (to_z w64 (of_z w64 c.second_of-to.result))
    (omega (arith, ints, lasts.later)) (omega (arith, ints, lasts.within))

pub loop-place-preserved : goal.loop-place-preserved
loop-place-preserved g c =
    let fits-from : FitsSigned w64 c.second_of-place.result = search rules in
    let fits-to : FitsSigned w64 c.second_of-to.result = search rules in
    let fits-end : FitsSigned w64 c.stretch_from-stretch.result.end = search rules in
    let lasts = rw (to_z-of_z fits-to) at c.stretch_from-stretch.ensures.lasts in
    let step = count-of (is_open c.args.self.now) c.stretch_from-stretch.result (to_z w64 c.loop-place.place-bits) c.second_of-to.result c.stretch_from-stretch.ensures.first lasts in
    let inv = rw (to_z-of_z fits-to, to_z-of_z fits-from) at c.loop-place.invariant in
    rw (to_z-of_z fits-end, to_z-of_z fits-to, to_z-of_z fits-from) (
      (omega (arith, ints, inv.0.0, lasts.later), omega (arith, ints, lasts.within, c.second_of-to.ensures.in_range.1)),
      c.second_of-to.ensures.in_range,
      omega (arith, ints, inv.2, lasts.later),
      c.second_of-place.ensures.in_range,
      omega (arith, step, inv.4, c.open_length-seconds.ensures),
    )

pub returns : goal.returns
returns g c =
    let fits-from : FitsSigned w64 c.second_of-place.result = search rules in
    let fits-to : FitsSigned w64 c.second_of-to.result = search rules in
    let inv = rw (to_z-of_z fits-to, to_z-of_z fits-from, c.second_of-place.ensures.second, c.second_of-to.ensures.second) at c.loop-place.invariant in
    let none = count-none (is_open c.args.self.now) (to_z w64 c.loop-place.place-bits) (second_of c.args.to.nanosecond) (omega (arith, ints, c.second_of-to.ensures.second, c.loop-place-test.false)) in
    omega (arith, none, inv.4)
