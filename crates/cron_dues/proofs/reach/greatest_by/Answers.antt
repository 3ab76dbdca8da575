use Rattle.std.proofs.Common.{rules, FitsSigned, w64, to_z-of_z, pos, ◌-ℤ◌, arith}
use Rattle.jiff_core.proofs.SignedLemmas.{signed_casts}
use Rattle.cron_seconds.proofs.IntLemmas.{int_le-true, int_le-false}
use Rattle.cron_dues.proofs.ReachLemmas.{gather_from, gather_on, gather_end, leads_on, left_less}
use Rattle.cron_dues.proofs.reach.greatest_by.Goals as goal

pub loop-steady-init : goal.loop-steady-init
loop-steady-init g c =
    gather_from (g.C.Clock.offsets c.args.clock.now) _ _ _ c.steady_from-steady.result (omega (arith, signed_casts, c.requires)) (omega (arith, signed_casts, c.requires))
    c.steady_from-steady.ensures.kept c.steady_from-steady.ensures.later

pub loop-steady-smaller : goal.loop-steady-smaller
loop-steady-smaller g c =
    let fits-end : FitsSigned w64 c.loop-steady.steady.end = search rules in
    let test = rw (to_z-of_z fits-end) at c.loop-steady-test.true in
    let le = int_le-true _ _ test in
    rw (to_z-of_z fits-end) (left_less _ _ c.loop-steady.steady.end c.loop-steady.invariant.later le)

pub loop-steady-preserved : goal.loop-steady-preserved
loop-steady-preserved g c =
    let fits-end : FitsSigned w64 c.loop-steady.steady.end = search rules in
    let fits-more : FitsSigned w64 c.greater-greatest.result = search rules in
    let fits-shown : FitsSigned w64 c.shown.result = search rules in
    let fits-last : FitsSigned w64 (c.loop-steady.steady.end -ℤ pos 1) = search rules in
    let test = rw (to_z-of_z fits-end) at c.loop-steady-test.true in
    let le = int_le-true _ _ test in
    let value = rw (to_z-of_z fits-end, to_z-of_z fits-last) at c.shown.ensures.value in
    let more = c.greater-greatest.ensures in
    let other = rw (to_z-of_z fits-shown, value) at more.other in
    let either = rw (to_z-of_z fits-shown, value) at more.either in
    let there = c.steady_past-steady.ensures in
    rw (to_z-of_z fits-end, to_z-of_z fits-more) (gather_on (g.C.Clock.offsets c.args.clock.now) _ _ _ c.greater-greatest.result c.loop-steady.steady
    c.steady_past-steady.result c.loop-steady.invariant le more.one other either
    (rw (to_z-of_z fits-end) at there.kept) (rw (to_z-of_z fits-end) at there.later))

pub returns-clause-greatest : goal.returns-clause-greatest
returns-clause-greatest g c =
    let fits-second : FitsSigned w64 c.args.second = search rules in
    let fits-end : FitsSigned w64 c.loop-steady.steady.end = search rules in
    let fits : FitsSigned w64 c.greater.result = search rules in
    let fits-shown : FitsSigned w64 c.shown-2.result = search rules in
    let test = rw (to_z-of_z fits-end, to_z-of_z fits-second) at c.loop-steady-test.false in
    let late = int_le-false _ _ test in
    let value = rw (to_z-of_z fits-second) at c.shown-2.ensures.value in
    let more = c.greater.ensures in
    rw (to_z-of_z fits) (gather_end (g.C.Clock.offsets c.args.clock.now) c.args.second _ _ c.greater.result c.loop-steady.steady
    (rw (to_z-of_z fits-second) at c.loop-steady.invariant) late more.one (rw (to_z-of_z fits-shown, value) at more.other)
    (rw (to_z-of_z fits-shown, value) at more.either))

pub returns-clause-span : goal.returns-clause-span
returns-clause-span g c =
    let fits-second : FitsSigned w64 c.args.second = search rules in
    let fits : FitsSigned w64 c.greater.result = search rules in
    let fits-shown : FitsSigned w64 c.shown-2.result = search rules in
    let value = rw (to_z-of_z fits-second) at c.shown-2.ensures.value in
    let more = c.greater.ensures in
    rw (to_z-of_z fits) (leads_on (g.C.Clock.offsets c.args.clock.now) c.args.second _ _ c.greater.result c.loop-steady.steady
    (rw (to_z-of_z fits-second) at c.loop-steady.invariant) more.one (rw (to_z-of_z fits-shown, value) at more.other))
