use Rattle.std.proofs.Common.{rules}
use Rattle.cron_units.proofs.time_unit.units.DaysOfWeekTableUnitTableU64.definition.Goals as goal

pub returns-clause-unit : goal.returns-clause-unit
returns-clause-unit c = search rules
