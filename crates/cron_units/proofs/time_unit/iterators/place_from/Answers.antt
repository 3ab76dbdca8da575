use Rattle.std.proofs.Common.{rules}
use Rattle.cron_units.proofs.time_unit.iterators.place_from.Goals as goal

pub returns-in-Excluded-2 : goal.returns-in-Excluded-2
returns-in-Excluded-2 c = search rules
