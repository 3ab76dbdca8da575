use Rattle.std.proofs.Common.{rules, FitsSigned, w64, to_z-of_z, arith, sym, ◌∙◌}
use Rattle.jiff_core.proofs.SignedLemmas.{signed_casts}
use Rattle.cron_dues.proofs.WayLemmas.{end_near, unreached_on}
use Rattle.cron_dues.proofs.way_to.span_behind.Goals as goal

pub span_from-requires-clause-unreached : goal.span_from-requires-clause-unreached
span_from-requires-clause-unreached g c =
    let fits : FitsSigned w64 c.args.from = search rules in
    let fits-end : FitsSigned w64 c.steady_past-steady.result.end = search rules in
    rw (to_z-of_z fits-end)
    (unreached_on (g.C.Clock.offsets c.args.clock.now) c.args.second c.args.from c.steady_past-steady.result c.requires.unreached
    (rw (to_z-of_z fits) at c.steady_past-steady.ensures.kept) (sym c.ends_before.ensures ∙ c.if-ends_before.true))

pub span_from-requires-clause-low : goal.span_from-requires-clause-low
span_from-requires-clause-low g c = omega (arith, signed_casts, c.requires.low, c.steady_past-steady.ensures.later)

pub span_from-requires-clause-high : goal.span_from-requires-clause-high
span_from-requires-clause-high g c =
    let fits-end : FitsSigned w64 c.steady_past-steady.result.end = search rules in
    rw (to_z-of_z fits-end) (end_near c.args.second c.steady_past-steady.result (sym c.ends_before.ensures ∙ c.if-ends_before.true))
