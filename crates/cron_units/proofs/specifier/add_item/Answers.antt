use Rattle.std.proofs.Common.{◌≡◌, Err, IfErr, sym, ap, ◌∙◌, rules}
use Rattle.cron_units.specs.Inner.ItemSteps.{by_steps, the_last_day, of_steps, denoted_by}
use Rattle.std.proofs.Math.Bool.{or-false}
use Rattle.cron_units.specs.Views.{item_view, refusal_view, steps_view}
use Rattle.cron_units.proofs.DenotedSets.{adds_item}
use Rattle.cron_units.proofs.Marks.{last_denoted, steps_denoted, last_is_there, last_unnumbered, or_marked, told_refused}
use Rattle.cron_units.proofs.specifier.add_item.Goals as goal

pub returns-then-names_last_day-clause-ok : goal.returns-then-names_last_day-clause-ok
returns-then-names_last_day-clause-ok g c =
    let field = g.T.TimeUnitField in
    let denoted = last_denoted field.unit (item_view c.args.item) (sym c.names_last_day.ensures ∙ c.if-names_last_day.true) in
    adds_item field.unit (item_view c.args.item) the_last_day _ _ _ _ g.met.T.TimeUnitField.is_unit denoted c.state_facts.ensures
    (last_unnumbered field.unit (field.members c.args.set.now) (field.members c.mark.new.self) c.state_facts.ensures c.mark.ensures.members)
    (or_marked (field.marked c.args.set.now) (field.marked c.mark.new.self)
    (c.mark.ensures.mark ∙ last_is_there field.unit (item_view c.args.item) (sym c.names_last_day.ensures ∙ c.if-names_last_day.true)))

pub returns-clause-ok : goal.returns-clause-ok
returns-clause-ok g c =
    let field = g.T.TimeUnitField in
    let denoted = steps_denoted field.unit (item_view c.args.item) (sym c.names_last_day.ensures ∙ c.if-names_last_day.false)
    ∙ ap of_steps c.in_ok-first.ensures.value in
    adds_item field.unit (item_view c.args.item) (by_steps (steps_view c.in_ok-first.field-0)) _ _ _ _ g.met.T.TimeUnitField.is_unit denoted c.state_facts.ensures
    c.add_steps.ensures.members (c.add_steps.ensures.mark ∙ sym (or-false (field.marked c.args.set.now)))

pub returns-in_err-first-clause-ok : goal.returns-in_err-first-clause-ok
returns-in_err-first-clause-ok c = search rules

pub returns-in_err-first-clause-err : goal.returns-in_err-first-clause-err
returns-in_err-first-clause-err g c =
    let u = g.T.TimeUnitField.unit in
    let found : IfErr c.from_residual.result (λ r. denoted_by u (item_view c.args.item) ≡ Err (refusal_view r)) = search rules in
    told_refused u (item_view c.args.item) c.from_residual.result g.met.T.TimeUnitField.is_unit found

pub returns-in_err-first-clause-unchanged : goal.returns-in_err-first-clause-unchanged
returns-in_err-first-clause-unchanged c = search rules
