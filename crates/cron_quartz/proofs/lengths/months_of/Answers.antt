use Rattle.std.proofs.Common.{◌∙◌, ◌&&◌, [], ℕ, Bool, sym, arith}
use Rattle.cron_units.specs.Units.{contains}
use Rattle.cron_units.specs.Units as units
use Rattle.cron_units.proofs.SetLemmas.{empty_is_set}
use Rattle.cron_quartz.specs.Days.{has_length}
use Rattle.cron_quartz.proofs.SetLemmas.{all_below, kept_of, none_below, one_inserted, one_passed}
use Rattle.cron_quartz.proofs.lengths.months_of.Goals as goal
use Rattle.cron_quartz.proofs.lengths.months_of.Goals.{then-keeps_month, else-keeps_month}

pub loop-month-init : goal.loop-month-init
loop-month-init c =
    c.empty-kept.ensures.members ∙ none_below units.months (λ x. contains c.args.months.now x && has_length c.args.length x) [] (empty_is_set units.months)

pub loop-month-preserved : goal.loop-month-preserved
loop-month-preserved c =
    let test : ℕ → Bool = λ x. contains c.args.months.now x && has_length c.args.length x in
    elim c.if-keeps_month.branch [
      | then-keeps_month w ↦
          rw w.kept-is
          (w.insert.ensures.members ∙ one_inserted units.months test [] c.loop-month.kept c.loop-month.month c.loop-month.invariant (sym c.keeps_month.ensures ∙ w.if-keeps_month.true))
      | else-keeps_month w ↦
          rw w.kept-is (one_passed units.months test [] c.loop-month.kept c.loop-month.month c.loop-month.invariant (sym c.keeps_month.ensures ∙ w.if-keeps_month.false))
    ]

pub returns : goal.returns
returns c =
    let test : ℕ → Bool = λ x. contains c.args.months.now x && has_length c.args.length x in
    all_below units.months test [] c.loop-month.kept c.loop-month.month c.loop-month.invariant (omega arith)
    ∙ kept_of units.months (has_length c.args.length) c.args.months.now c.state_facts.ensures
