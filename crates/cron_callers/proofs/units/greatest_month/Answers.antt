use Rattle.std.proofs.Common.{rules}
use Rattle.cron_callers.proofs.units.greatest_month.Goals as goal

pub returns : goal.returns
returns c = search rules
