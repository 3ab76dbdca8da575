use Rattle.std.proofs.Common.{◌∙◌, FitsSigned, ap, arith, sym, to_z-of_z, w64}
use mir.Val.{to_z, of_z}
use Rattle.jiff_core.proofs.SignedLemmas.{signed_arith}
use Rattle.jiff_tz.specs.declared.tzif.transition.Transition.{Transition}
use Rattle.jiff_tz.specs.TzifText.{TransitionText}
use Rattle.cron_clocks.proofs.TableLemmas.{transition_of, transitions_length}
use Rattle.cron_c.proofs.era_table.second_of.Goals as goal

pub returns : goal.returns
returns c =
    let size = transitions_length c.args.table.now in
    let same =
    transition_of c.args.table.now c.transitions.result.now c.args.at c.index-transitions-at.result c.transitions.ensures c.index-transitions-at.is
    (omega (arith, size, c.requires)) in
    let (least, most) = c.index-transitions-at.result.second_in in
    let fits : FitsSigned w64 c.index-transitions-at.result.second = omega (arith, signed_arith) in
    ap (λ (t : Transition). to_z w64 (of_z w64 t.second)) (sym c.index-transitions-at.is)
    ∙ to_z-of_z fits
    ∙ ap (λ (t : TransitionText). t.second) same
