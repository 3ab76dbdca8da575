use Rattle.cron_units.proofs.NameLemmas.{key_within}
use Rattle.cron_units.proofs.time_unit.field.TimeUnitField.ordinal_from_key.Goals as goal

pub returns-clause-within : goal.returns-clause-within
returns-clause-within g c =
    key_within g.Self.TimeUnitField.unit c.definition.result c.in_ok-names.names c.args.key c.ordinal_keyed.result g.met.Self.TimeUnitField.is_unit
    c.definition.ensures.unit c.in_ok-names.was c.ordinal_keyed.ensures.found
