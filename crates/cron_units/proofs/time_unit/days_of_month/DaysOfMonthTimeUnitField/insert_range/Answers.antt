use Rattle.std.proofs.Common.{◌||◌, ◌&&◌, nat_le, ap, ◌∙◌, rules}
use Rattle.cron_units.proofs.SetLemmas.{set_without}
use Rattle.cron_units.specs.Units.{FieldSet, contains, days_of_month, set_of}
use Rattle.cron_units.proofs.time_unit.days_of_month.DaysOfMonthTimeUnitField.insert_range.Goals as goal

pub returns-clause-members : goal.returns-clause-members
returns-clause-members c =
    c.insert_range.ensures.members ∙ (set_without days_of_month _
    ∙ ap (λ (s : FieldSet). set_of days_of_month (λ x. contains s.ordinals x || (nat_le c.args.first x && nat_le x c.args.last))) c.self.view_is)

pub returns-clause-mark : goal.returns-clause-mark
returns-clause-mark c = search rules
