use Rattle.std.proofs.Common.{◌≤◌, refl, arith}
use Rattle.jiff.specs.Words.{plain_zone}
use Rattle.cron_counting.proofs.DayLemmas.{none-yet, readings-within, stretch-more}
use Rattle.cron_counting.proofs.day.count_readings.Goals as goal

pub loop-first-init : goal.loop-first-init
loop-first-init c = (omega (arith, c.requires.order), omega arith, none-yet c.args.times.now (plain_zone c.args.zone.now) c.args.day c.args.span.first _ refl, c.requires.known)

pub overflow_add-count : goal.overflow_add-count
overflow_add-count c =
    let low = c.loop-first.invariant.1 in
    let step = stretch-more c.args.times.now (plain_zone c.args.zone.now) c.args.day c.args.span.first c.move_to.new.stretch c.loop-first.first c.min-end.result
    c.readings_of.result c.count_times.result c.loop-first.count c.move_to.ensures.known c.move_to.ensures.low
    (omega (arith, c.min-end.ensures, c.move_to.ensures.high)) low (omega (arith, c.min-end.ensures, c.move_to.ensures.high, c.loop-first-test.true))
    c.readings_of.ensures.value c.count_times.ensures.value c.loop-first.invariant.2 in
    let few = readings-within c.args.times.now (plain_zone c.args.zone.now) c.args.day c.args.span.first _ _ step in
    omega (arith, few)

pub loop-first-preserved : goal.loop-first-preserved
loop-first-preserved c =
    let low = c.loop-first.invariant.1 in
    let later : c.loop-first.first ≤ c.min-end.result = omega (arith, c.min-end.ensures, c.move_to.ensures.high, c.loop-first-test.true) in
    let step = stretch-more c.args.times.now (plain_zone c.args.zone.now) c.args.day c.args.span.first c.move_to.new.stretch c.loop-first.first c.min-end.result
    c.readings_of.result c.count_times.result c.loop-first.count c.move_to.ensures.known c.move_to.ensures.low
    (omega (arith, c.min-end.ensures, c.move_to.ensures.high)) low later
    c.readings_of.ensures.value c.count_times.ensures.value c.loop-first.invariant.2 in
    (omega (arith, c.min-end.ensures), omega (arith, low, later), step, c.move_to.ensures.known)
