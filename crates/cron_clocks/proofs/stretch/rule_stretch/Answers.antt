use Rattle.std.proofs.Common.{rules, pos, ◌≤ℤ◌, FitsSigned, w64, to_z-of_z, arith}
use Rattle.jiff_core.proofs.SignedLemmas.{signed_arith}
use Rattle.cron_clocks.proofs.SteadyLemmas.{steady_rule}
use Rattle.cron_clocks.proofs.SpanLemmas.{as_number}
use Rattle.cron_clocks.proofs.stretch.rule_stretch.Goals as goal

pub returns-clause-steady : goal.returns-clause-steady
returns-clause-steady c =
    let span = c.args.told.span in
    let around = c.requires in
    let start = around.narrowed.0 in
    let high = around.high in
    let fits-first : FitsSigned w64 span.first = search rules in
    let fits-end : FitsSigned w64 span.end = search rules in
    let end_low : pos 0 ≤ℤ span.end = omega (arith, signed_arith) in
    rw (to_z-of_z fits-first, to_z-of_z fits-end)
    (steady_rule c.args.rule c.args.second _ _ span.first span.end _ _ (as_number span.first start) (as_number span.end end_low)
    around.low high around.narrowed around.alike around.told)
