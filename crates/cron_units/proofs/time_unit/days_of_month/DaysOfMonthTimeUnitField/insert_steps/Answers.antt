use Rattle.std.proofs.Common.{◌||◌, ap, ◌∙◌}
use Rattle.cron_units.specs.Steps.{Progression, in_steps}
use Rattle.cron_units.proofs.SetLemmas.{set_without}
use Rattle.cron_units.specs.Units.{FieldSet, contains, days_of_month, set_of}
use Rattle.cron_units.proofs.time_unit.days_of_month.DaysOfMonthTimeUnitField.insert_steps.Goals as goal

pub returns-clause-members : goal.returns-clause-members
returns-clause-members c =
    let steps : Progression = record { first = c.args.first; last = c.args.last; every = c.args.every } in
    c.insert_steps.ensures.members ∙ (set_without days_of_month _
    ∙ ap (λ (s : FieldSet). set_of days_of_month (λ x. contains s.ordinals x || in_steps steps x)) c.self.view_is)
