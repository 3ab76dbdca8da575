use Rattle.std.proofs.Common.{◌≡◌, ◌≤◌, ℕ, Option, sym, ap, subst, ◌∙◌, rules}
use Rattle.std.specs.Prelude.{IfSome}
use Rattle.std.specs.Option.{option_map}
use Rattle.cron_units.specs.Tables.{names_view}
use Rattle.cron_units.specs.Units.{TimeUnit, named_by, ordinal_of}
use Rattle.cron_units.specs.declared.time_unit.names.Names.{Names}
use Rattle.cron_units.proofs.NameLemmas.{ordinal_within}
use Rattle.cron_units.proofs.time_unit.field.TimeUnitField.ordinal_from_name.Goals as goal

pub returns-clause-within : goal.returns-clause-within
returns-clause-within g c =
    let u = g.Self.TimeUnitField.unit in
    let name = c.args.name.now in
    let same : c.ordinal_named.result ≡ ordinal_of u name =
    c.ordinal_named.ensures ∙ (sym (ap (λ (names : Option Names). named_by (option_map names_view names) name) c.in_ok-names.was)
    ∙ ap (λ (v : TimeUnit). ordinal_of v name) c.definition.ensures.unit) in
    subst (λ (o : Option ℕ). IfSome o (λ n. (u.least ≤ n) × (n ≤ u.greatest))) (sym same) (ordinal_within u name g.met.Self.TimeUnitField.is_unit)

pub returns-clause-value : goal.returns-clause-value
returns-clause-value c = search rules
