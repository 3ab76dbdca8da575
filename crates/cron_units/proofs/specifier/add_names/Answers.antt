use Rattle.std.proofs.Common.{sym}
use Rattle.cron_units.proofs.NamedSets.{adds_names}
use Rattle.cron_units.proofs.specifier.add_names.Goals as goal

pub returns : goal.returns
returns g c = λ _ v w first_letters last_letters first last.
    let field = g.T.TimeUnitField in
    adds_names field.unit v w c.in-Some.first c.in-Some-ordinal_from_key.last (field.members c.args.set.now) (field.members c.add_steps.new.set)
    (field.marked c.args.set.now) (field.marked c.add_steps.new.set) g.met.T.TimeUnitField.is_unit (sym (c.in-Some.ensures.value v first_letters first))
    (sym (c.in-Some-ordinal_from_key.ensures.value w last_letters last)) c.if-first-last.false c.state_facts.ensures c.add_steps.ensures.members
    c.add_steps.ensures.mark
