use Rattle.std.proofs.Common.{rules, FitsSigned, w64, to_z-of_z, sym, ◌∙◌}
use Rattle.cron_dues.proofs.WayLemmas.{way_ahead, way_on}
use Rattle.cron_dues.proofs.way_to.span_from.Goals as goal

pub loop-from-init : goal.loop-from-init
loop-from-init g c =
    let fits : FitsSigned w64 c.args.start = search rules in
    rw (to_z-of_z fits)
    (record {
      unreached = c.requires.unreached;
      low = c.requires.low;
      high = c.requires.high;
      kept = rw (to_z-of_z fits) at c.steady_from-steady.ensures.kept;
      later = rw (to_z-of_z fits) at c.steady_from-steady.ensures.later;
    })

pub loop-from-preserved : goal.loop-from-preserved
loop-from-preserved g c =
    let fits : FitsSigned w64 c.loop-from.steady.end = search rules in
    let there = c.steady_past-steady.ensures in
    rw (to_z-of_z fits) (way_on (g.C.Clock.offsets c.args.clock.now) c.args.second _ c.loop-from.steady c.steady_past-steady.result
    c.loop-from.invariant (sym c.ends_before.ensures ∙ c.loop-from-test.true) (rw (to_z-of_z fits) at there.kept) (rw (to_z-of_z fits) at there.later))

pub returns-clause-ahead : goal.returns-clause-ahead
returns-clause-ahead g c = way_ahead (g.C.Clock.offsets c.args.clock.now) c.args.second _ c.loop-from.steady c.loop-from.invariant
