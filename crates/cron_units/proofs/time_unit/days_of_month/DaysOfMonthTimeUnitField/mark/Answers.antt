use Rattle.std.proofs.Common.{rules}
use Rattle.cron_units.proofs.time_unit.days_of_month.DaysOfMonthTimeUnitField.mark.Goals as goal

pub returns-clause-members : goal.returns-clause-members
returns-clause-members c = search rules

pub returns-clause-mark : goal.returns-clause-mark
returns-clause-mark c = search rules
