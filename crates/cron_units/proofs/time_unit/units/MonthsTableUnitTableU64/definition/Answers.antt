use Rattle.std.proofs.Common.{rules}
use Rattle.cron_units.proofs.time_unit.units.MonthsTableUnitTableU64.definition.Goals as goal

pub returns-clause-keys : goal.returns-clause-keys
returns-clause-keys c = search rules
