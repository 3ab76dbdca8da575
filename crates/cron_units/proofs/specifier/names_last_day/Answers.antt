use Rattle.std.proofs.Common.{rules}
use Rattle.cron_units.proofs.specifier.names_last_day.Goals as goal

pub returns-in-Name : goal.returns-in-Name
returns-in-Name c = search rules
