use Rattle.std.proofs.Common.{◌∙◌, [], ℕ, Bool, sym, arith}
use Rattle.std.specs.List.{list_any}
use Rattle.cron_units.specs.Units.{contains}
use Rattle.cron_units.specs.Units as units
use Rattle.cron_units.proofs.SetLemmas.{empty_is_set}
use Rattle.cron_quartz.proofs.SetLemmas.{all_below, none_below, one_inserted, one_passed}
use Rattle.cron_words.proofs.shapes.years_of_any.Goals as goal
use Rattle.cron_words.proofs.shapes.years_of_any.Goals.{then-any_has_year, else-any_has_year}

pub loop-year-init : goal.loop-year-init
loop-year-init c =
    c.empty-kept.ensures.members ∙ none_below units.years (λ x. list_any (λ s. contains s.years x) c.args.schedules.now) [] (empty_is_set units.years)

pub loop-year-preserved : goal.loop-year-preserved
loop-year-preserved c =
    let test : ℕ → Bool = λ x. list_any (λ s. contains s.years x) c.args.schedules.now in
    elim c.if-any_has_year.branch [
      | then-any_has_year w ↦
          rw w.kept-is
          (w.insert.ensures.members ∙ one_inserted units.years test [] c.loop-year.kept c.loop-year.year c.loop-year.invariant
          (sym c.any_has_year.ensures ∙ w.if-any_has_year.true))
      | else-any_has_year w ↦
          rw w.kept-is
          (one_passed units.years test [] c.loop-year.kept c.loop-year.year c.loop-year.invariant (sym c.any_has_year.ensures ∙ w.if-any_has_year.false))
    ]

pub returns : goal.returns
returns c =
    let test : ℕ → Bool = λ x. list_any (λ s. contains s.years x) c.args.schedules.now in
    all_below units.years test [] c.loop-year.kept c.loop-year.year c.loop-year.invariant (omega arith)
