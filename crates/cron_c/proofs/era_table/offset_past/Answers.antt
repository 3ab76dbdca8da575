use Rattle.std.proofs.Common.{◌∙◌, ◌-◌, ◌<◌, ap, arith, sym}
use Rattle.jiff_tz.specs.declared.tzif.transition.Transition.{Transition}
use Rattle.jiff_tz.specs.Tzif.{transition_at}
use Rattle.jiff_tz.specs.TzifText.{TransitionText, TypeText}
use Rattle.cron_clocks.proofs.TableLemmas.{first_type, last_type, same_offset, transition_of, transitions_length}
use Rattle.cron_c.proofs.era_table.offset_past.Goals as goal

pub returns-then-count-eq0 : goal.returns-then-count-eq0
returns-then-count-eq0 c =
    same_offset c.first.result.offset c.args.table.now.first.offset (ap (λ (t : TypeText). t.seconds) c.first.ensures)
    ∙ sym (first_type c.args.table.now c.args.count c.if-count-eq0.true)

pub returns-else-count-eq0 : goal.returns-else-count-eq0
returns-else-count-eq0 c =
    let some : 0 < c.args.count = omega (arith, c.if-count-eq0.false) in
    let size = transitions_length c.args.table.now in
    let same = transition_of c.args.table.now c.transitions.result.now (c.args.count - 1) c.index-transitions-count.result c.transitions.ensures
    c.index-transitions-count.is
    (omega (arith, some, size, c.requires)) in
    ap (λ (t : Transition). t.after.offset) (sym c.index-transitions-count.is)
    ∙ same_offset c.index-transitions-count.result.after.offset (transition_at c.args.table.now (c.args.count - 1)).after.offset
    (ap (λ (t : TransitionText). t.after.seconds) same)
    ∙ sym (last_type c.args.table.now c.args.count some)
