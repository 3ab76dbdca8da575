use Rattle.std.proofs.Common.{◌∙◌, [], ℕ, Bool, sym, arith}
use Rattle.std.specs.List.{list_any}
use Rattle.cron_units.specs.Units.{contains}
use Rattle.cron_units.specs.Units as units
use Rattle.cron_units.proofs.SetLemmas.{empty_is_set}
use Rattle.cron_quartz.proofs.SetLemmas.{all_below, none_below, one_inserted, one_passed}
use Rattle.cron_words.proofs.shapes.months_of_any.Goals as goal
use Rattle.cron_words.proofs.shapes.months_of_any.Goals.{then-any_has_month, else-any_has_month}

pub loop-month-init : goal.loop-month-init
loop-month-init c =
    c.empty-kept.ensures.members ∙ none_below units.months (λ x. list_any (λ s. contains s.months x) c.args.schedules.now) [] (empty_is_set units.months)

pub loop-month-preserved : goal.loop-month-preserved
loop-month-preserved c =
    let test : ℕ → Bool = λ x. list_any (λ s. contains s.months x) c.args.schedules.now in
    elim c.if-any_has_month.branch [
      | then-any_has_month w ↦
          rw w.kept-is
          (w.insert.ensures.members ∙ one_inserted units.months test [] c.loop-month.kept c.loop-month.month c.loop-month.invariant
          (sym c.any_has_month.ensures ∙ w.if-any_has_month.true))
      | else-any_has_month w ↦
          rw w.kept-is
          (one_passed units.months test [] c.loop-month.kept c.loop-month.month c.loop-month.invariant (sym c.any_has_month.ensures ∙ w.if-any_has_month.false))
    ]

pub returns : goal.returns
returns c =
    let test : ℕ → Bool = λ x. list_any (λ s. contains s.months x) c.args.schedules.now in
    all_below units.months test [] c.loop-month.kept c.loop-month.month c.loop-month.invariant (omega arith)
