use Rattle.std.proofs.Common.{◌≡◌, ◌-◌, ◌<◌, ◌==◌, length, true, false, arith, rules, FitsSigned, w32, w64, to_z-of_z, ◌∙◌, ap, refl, subst, sym}
use Rattle.std.proofs.lemmas.Bool.Decides.{nat_tests}
use Rattle.jiff_tz.specs.Tzif.{transition_at}
use Rattle.jiff_tz.specs.TzifText.{TransitionText, civil_end, transition_text}
use Rattle.cron_clocks.proofs.TableLemmas.{transition_of, transitions_length}
use Rattle.cron_instants.specs.OffsetRange.{IsAmongOffsets}
use Rattle.cron_instants.proofs.TransitionLemmas.{size}
use Rattle.cron_instants.proofs.TableOffsetRange.{sizes, offset_range_of_rows, offset_range_of_rule, offset_range_of_both}
use Rattle.cron_instants.proofs.offset_range.offset_range_in.Goals as goal

pub returns-in_default : goal.returns-in_default
returns-in_default c =
    offset_range_of_rows c.args.table _ c.posix_tz.result c.posix_tz.ensures c.in_default.is c.at_one_offset.ensures.edge
    (c.at_one_offset.ensures.least ∙ sym c.at_one_offset.ensures.greatest)

pub returns-then-is_empty : goal.returns-then-is_empty
returns-then-is_empty c =
    let p = c.offsets_with.result in
    let same = sizes c.args.table.now c.transitions-transitions.result.now c.transitions-transitions.ensures in
    let empty : (length c.transitions-transitions.result.now == 0) ≡ true = sym c.is_empty.ensures ∙ c.if-is_empty.true in
    let none : length c.transitions-transitions.result.now ≡ 0 = grind (arith, nat_tests) in
    offset_range_of_rule c.args.table p c.in-Some.rule c.posix_tz.result c.transitions-transitions.result.now c.posix_tz.ensures c.in-Some.is c.transitions-transitions.ensures
    c.offsets_with.ensures.rule (sym same ∙ none) c.offsets_with.ensures.edge

pub returns : goal.returns
returns c =
    let p = c.offsets_with-2.result in
    let same = sizes c.args.table.now c.transitions-transitions.result.now c.transitions-transitions.ensures in
    let some : (length c.transitions-transitions.result.now == 0) ≡ false = sym c.is_empty.ensures ∙ c.if-is_empty.false in
    let any : 0 < length c.transitions-transitions.result.now = grind (arith, nat_tests) in
    let place : length c.transitions-transitions.result.now - 1 ≡ size c.args.table.now - 1 = ap (λ n. n - 1) same in
    let at = transition_of c.args.table.now c.transitions-transitions.result.now (length c.transitions-transitions.result.now - 1) c.index-transitions-transitions.result
    c.transitions-transitions.ensures c.index-transitions-transitions.is (omega (arith, any, same, transitions_length c.args.table.now)) in
    let text = at ∙ ap (λ n. transition_text (transition_at c.args.table.now n)) place in
    let fits : FitsSigned w64 c.civil_end.result = search rules in
    let fits-after : FitsSigned w32 c.index-transitions-transitions.result.after.offset.seconds = search rules in
    offset_range_of_both c.args.table p c.in-Some.rule c.posix_tz.result c.transitions-transitions.result.now c.posix_tz.ensures c.in-Some.is c.transitions-transitions.ensures
    c.offsets_with-2.ensures.rule (omega (arith, any, same)) (transition_at c.args.table.now (size c.args.table.now - 1)) refl
    (c.offsets_with-2.ensures.edge ∙ to_z-of_z fits ∙ c.civil_end.ensures ∙ ap civil_end text)
    (subst (IsAmongOffsets p) (to_z-of_z fits-after ∙ ap (λ (r : TransitionText). r.after.seconds) text) c.offsets_with-2.ensures.last)
