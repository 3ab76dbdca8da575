use Rattle.std.proofs.Common.{rules}
use Rattle.cron_callers.proofs.units.year_count.Goals as goal

pub returns : goal.returns
returns c = search rules
