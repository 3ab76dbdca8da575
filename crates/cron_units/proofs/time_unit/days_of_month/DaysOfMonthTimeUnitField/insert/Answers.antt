use Rattle.std.proofs.Common.{◌||◌, nat_eq, ap, ◌∙◌}
use Rattle.cron_units.proofs.SetLemmas.{set_without}
use Rattle.cron_units.specs.Units.{FieldSet, contains, days_of_month, set_of}
use Rattle.cron_units.proofs.time_unit.days_of_month.DaysOfMonthTimeUnitField.insert.Goals as goal

pub returns-clause-members : goal.returns-clause-members
returns-clause-members c =
    c.insert.ensures.members ∙ (set_without days_of_month _
    ∙ ap (λ (s : FieldSet). set_of days_of_month (λ x. contains s.ordinals x || nat_eq x c.args.ordinal)) c.self.view_is)
