use Rattle.std.proofs.Common.{rules}
use Rattle.cron_units.proofs.time_unit.layout.from_bits.Goals as goal

pub returns : goal.returns
returns c = search rules
