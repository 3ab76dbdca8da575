use Rattle.std.proofs.Common.{◌∙◌, ◌&&◌, [], ℕ, Bool, sym, arith}
use Rattle.cron_units.specs.Units.{contains}
use Rattle.cron_units.specs.Units as units
use Rattle.cron_units.proofs.SetLemmas.{empty_is_set}
use Rattle.cron_quartz.specs.Days.{year_fits}
use Rattle.cron_quartz.proofs.SetLemmas.{all_below, kept_of, none_below, one_inserted, one_passed}
use Rattle.cron_quartz.proofs.lengths.years_of.Goals as goal
use Rattle.cron_quartz.proofs.lengths.years_of.Goals.{then-keeps_year, else-keeps_year}

pub loop-year-init : goal.loop-year-init
loop-year-init c =
    c.empty-kept.ensures.members ∙ none_below units.years (λ x. contains c.args.years.now x && year_fits c.args.length x) [] (empty_is_set units.years)

pub loop-year-preserved : goal.loop-year-preserved
loop-year-preserved c =
    let test : ℕ → Bool = λ x. contains c.args.years.now x && year_fits c.args.length x in
    elim c.if-keeps_year.branch [
      | then-keeps_year w ↦
          rw w.kept-is
          (w.insert.ensures.members ∙ one_inserted units.years test [] c.loop-year.kept c.loop-year.year c.loop-year.invariant (sym c.keeps_year.ensures ∙ w.if-keeps_year.true))
      | else-keeps_year w ↦
          rw w.kept-is (one_passed units.years test [] c.loop-year.kept c.loop-year.year c.loop-year.invariant (sym c.keeps_year.ensures ∙ w.if-keeps_year.false))
    ]

pub returns : goal.returns
returns c =
    let test : ℕ → Bool = λ x. contains c.args.years.now x && year_fits c.args.length x in
    all_below units.years test [] c.loop-year.kept c.loop-year.year c.loop-year.invariant (omega arith)
    ∙ kept_of units.years (year_fits c.args.length) c.args.years.now c.state_facts.ensures
