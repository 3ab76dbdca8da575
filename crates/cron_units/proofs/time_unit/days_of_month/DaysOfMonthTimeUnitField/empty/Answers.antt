use Rattle.std.proofs.Common.{rules}
use Rattle.cron_units.proofs.time_unit.days_of_month.DaysOfMonthTimeUnitField.empty.Goals as goal

pub returns-clause-mark : goal.returns-clause-mark
returns-clause-mark c = search rules
