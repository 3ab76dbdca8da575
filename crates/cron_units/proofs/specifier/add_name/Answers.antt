use Rattle.std.proofs.Common.{sym, ◌∙◌}
use Rattle.cron_units.proofs.NamedSets.{adds_name, no_word}
use Rattle.cron_units.proofs.specifier.add_name.Goals as goal

pub returns : goal.returns
returns g c = λ _ word letters key.
    let field = g.T.TimeUnitField in
    adds_name field.unit word c.in-Some.only (field.members c.args.set.now) (field.members c.add_steps.new.set) (field.marked c.args.set.now)
    (field.marked c.add_steps.new.set) g.met.T.TimeUnitField.is_unit
    (no_word field.unit c.definition.result c.definition.ensures.unit (sym c.is_some.ensures ∙ c.if-is_some.false))
    (sym (c.in-Some.ensures.value word letters key)) c.state_facts.ensures c.add_steps.ensures.members c.add_steps.ensures.mark
