use Rattle.std.proofs.Common.{rules}
use Rattle.cron_units.proofs.time_unit.views.AnyTimeUnitSpec.count.Goals as goal

pub returns : goal.returns
returns c = search rules
