use Rattle.std.proofs.Common.{rules, FitsSigned, w64, to_z-of_z, sym, ◌∙◌}
use Rattle.cron_dues.proofs.WayLemmas.{end_near, unreached_on}
use Rattle.cron_dues.proofs.way_to.span_past.Goals as goal

pub span_behind-requires-clause-unreached : goal.span_behind-requires-clause-unreached
span_behind-requires-clause-unreached g c =
    let fits : FitsSigned w64 c.args.earlier.steady.end = search rules in
    rw (to_z-of_z fits)
    (unreached_on (g.C.Clock.offsets c.args.clock.now) c.args.second c.args.earlier.from c.args.earlier.steady c.requires.ahead.unreached
    c.requires.ahead.kept (sym c.ends_before.ensures ∙ c.if-not-ends_before.false))

pub span_behind-requires-clause-high : goal.span_behind-requires-clause-high
span_behind-requires-clause-high g c =
    let fits : FitsSigned w64 c.args.earlier.steady.end = search rules in
    rw (to_z-of_z fits) (end_near c.args.second c.args.earlier.steady (sym c.ends_before.ensures ∙ c.if-not-ends_before.false))
