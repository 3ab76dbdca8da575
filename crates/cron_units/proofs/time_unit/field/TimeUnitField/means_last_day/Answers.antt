use Rattle.std.proofs.Common.{rules}
use Rattle.cron_units.proofs.time_unit.field.TimeUnitField.means_last_day.Goals as goal

pub returns-in-Some : goal.returns-in-Some
returns-in-Some c = search rules
