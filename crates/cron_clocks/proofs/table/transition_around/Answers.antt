use Rattle.std.proofs.Common.{◌∙◌, ◌-◌, ◌<◌, FitsSigned, ap, arith, rules, to_z-of_z, w64}
use Rattle.jiff_core.proofs.SignedLemmas.{signed_casts}
use Rattle.jiff_tz.specs.Tzif.{transition_at}
use Rattle.jiff_tz.specs.TzifText.{civil_end, transition_text}
use Rattle.cron_clocks.proofs.TableLemmas.{is_inside-some, same_transition, transition_of}
use Rattle.cron_clocks.proofs.Windows.{lt_no, lt_yes}
use Rattle.cron_clocks.proofs.table.transition_around.Goals as goal

pub returns-then-at-civil_end : goal.returns-then-at-civil_end
returns-then-at-civil_end c =
    let some : 0 < c.args.count = omega (arith, c.if-count-eq0.false) in
    let same = transition_of c.args.table.now c.transitions.result.now (c.args.count - 1) c.index-transitions-count.result c.transitions.ensures
    c.index-transitions-count.is
    (omega (arith, some, c.requires)) in
    let fits-at : FitsSigned w64 c.args.at = search rules in
    let fits-end : FitsSigned w64 c.civil_end.result = search rules in
    let end = c.civil_end.ensures ∙ ap civil_end same in
    let short = rw (to_z-of_z fits-at, to_z-of_z fits-end) at c.if-at-civil_end.true in (
      is_inside-some c.args.table.now c.args.count c.args.at some
          ∙ lt_yes c.args.at (civil_end (transition_text (transition_at c.args.table.now (c.args.count - 1)))) (omega (arith, signed_casts)),
      same_transition c.index-transitions-count.result (transition_at c.args.table.now (c.args.count - 1)) same,
    )

pub returns-else-at-civil_end : goal.returns-else-at-civil_end
returns-else-at-civil_end c =
    let some : 0 < c.args.count = omega (arith, c.if-count-eq0.false) in
    let same = transition_of c.args.table.now c.transitions.result.now (c.args.count - 1) c.index-transitions-count.result c.transitions.ensures
    c.index-transitions-count.is
    (omega (arith, some, c.requires)) in
    let fits-at : FitsSigned w64 c.args.at = search rules in
    let fits-end : FitsSigned w64 c.civil_end.result = search rules in
    let end = c.civil_end.ensures ∙ ap civil_end same in
    let past = rw (to_z-of_z fits-at, to_z-of_z fits-end) at c.if-at-civil_end.false in
    is_inside-some c.args.table.now c.args.count c.args.at some
    ∙ lt_no c.args.at (civil_end (transition_text (transition_at c.args.table.now (c.args.count - 1)))) (omega (arith, signed_casts))
