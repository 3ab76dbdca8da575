use Rattle.std.proofs.Common.{ap, ◌∙◌, subst}
use Rattle.cron_units.proofs.SetLemmas.{set_without}
use Rattle.cron_units.specs.Units.{FieldSet, IsSet, contains, days_of_month}
use Rattle.cron_units.proofs.time_unit.days_of_month.DaysOfMonthTimeUnitField.state_facts.Goals as goal

pub returns : goal.returns
returns c =
    subst (IsSet days_of_month) (ap (λ (s : FieldSet). s.ordinals) c.self.view_is) (c.state_facts.ensures
    ∙ set_without days_of_month (contains c.self.inside.numbered))
