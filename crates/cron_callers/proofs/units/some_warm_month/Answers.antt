use Rattle.std.proofs.Common.{rules}
use Rattle.cron_callers.proofs.units.some_warm_month.Goals as goal

pub returns : goal.returns
returns c = search rules
