use Rattle.std.proofs.Common.{◌≡◌, ◌∙◌, ◌+◌, ◌-◌, FitsSigned, inl, inr, ap, arith, refl, rules, sym, to_z-of_z, w64}
use mir.Val.{to_z, of_z}
use Rattle.jiff_tz.specs.Tzif.{transition_at}
use Rattle.cron_c.proofs.Eras.{last_or_before}
use Rattle.cron_c.proofs.TableEras.{transitions_told}
use Rattle.cron_c.proofs.era_table.has_double_transition.Goals as goal

pub returns-then-second_of : goal.returns-then-second_of
returns-then-second_of c =
    let rows = transitions_told c.args.table.now c.transitions-at-end.result.now c.transitions-at-end.ensures in
    let fits-last : FitsSigned w64 c.second_of.result = search rules in
    let fits-here : FitsSigned w64 c.second_of-in-loop-at.result = search rules in
    let same = sym (to_z-of_z fits-last) ∙ ap (to_z w64) c.if-second_of.true ∙ to_z-of_z fits-here in
    let next : c.loop-at.at - 1 + 1 ≡ c.loop-at.at = omega (arith, c.loop-at.auto.at) in (
      λ e. (
        c.loop-at.at - 1,
        omega (arith, c.loop-at-test.true, c.loop-at.auto.at),
        sym c.second_of.ensures ∙ same ∙ c.second_of-in-loop-at.ensures ∙ ap (λ k. (transition_at c.args.table.now k).second) (sym next),
      ),
      λ h. refl,
    )

pub returns : goal.returns
returns c =
    let rows = transitions_told c.args.table.now c.transitions-at-end.result.now c.transitions-at-end.ensures in
    (λ e. absurd (cc), λ double. absurd (c.loop-at.invariant double.0 (omega (arith, c.loop-at-test.false, double.1)) double.2))

pub loop-at-preserved : goal.loop-at-preserved
loop-at-preserved c = λ i l e.
    elim (last_or_before (i + 1) c.loop-at.at l) [
      | inl last ↦
          let back : c.loop-at.at - 1 ≡ i = omega (arith, last) in
          c.if-second_of.false (ap (of_z w64) (
          c.second_of.ensures
          ∙ ap (λ k. (transition_at c.args.table.now k).second) back
          ∙ e
          ∙ ap (λ k. (transition_at c.args.table.now k).second) last
          ∙ sym c.second_of-in-loop-at.ensures
          ))
      | inr before ↦ c.loop-at.invariant i before e
    ]
