use Rattle.std.proofs.Common.{rules}
use Rattle.cron_units.proofs.time_unit.iterators.place_end.Goals as goal

pub returns-in-Included-2 : goal.returns-in-Included-2
returns-in-Included-2 c = search rules

pub returns-in-Excluded : goal.returns-in-Excluded
returns-in-Excluded c = search rules
