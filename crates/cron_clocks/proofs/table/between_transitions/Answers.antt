use Rattle.std.proofs.Common.{◌∙◌, ◌-◌, ◌<◌, FitsSigned, ap, arith, refl, rules, subst, to_z-of_z, w64}
use Rattle.jiff_tz.specs.TzifText.{civil_end, civil_start}
use Rattle.cron_clocks.specs.Spans.{IsUnparted}
use Rattle.cron_clocks.proofs.SpanLemmas.{narrowed}
use Rattle.cron_clocks.proofs.TableLemmas.{transition_here}
use Rattle.cron_clocks.proofs.table.between_transitions.Goals as goal

pub returns-clause-between : goal.returns-clause-between
returns-clause-between c =
    let some : 0 < c.args.count = omega (arith, c.if-count-eq0.false) in
    let same = transition_here c.args.table.now c.transitions.result.now (c.args.count - 1) c.index-transitions-count.result c.transitions.ensures
    c.index-transitions-count.is
    (omega (arith, some, c.requires.count)) in
    let fits-start : FitsSigned w64 c.civil_start.result = search rules in
    let fits-end : FitsSigned w64 c.civil_end.result = search rules in
    let start = to_z-of_z fits-start ∙ c.civil_start.ensures ∙ ap civil_start same in
    let end = to_z-of_z fits-end ∙ c.civil_end.ensures ∙ ap civil_end same in
    let span = c.part_twice.result in
    record {
      begun = λ l. subst (IsUnparted span.first span.end) start c.part_twice.ensures.one;
      ended = λ l. subst (IsUnparted span.first span.end) end c.part_twice.ensures.other;
      next = λ l. narrowed _ _ _ _ _ _ (c.up_to_next-ahead.ensures.next l) c.part_twice.ensures.narrowed refl;
    }
