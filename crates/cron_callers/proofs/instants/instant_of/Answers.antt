use Rattle.std.proofs.Common.{rules}
use Rattle.cron_callers.proofs.instants.instant_of.Goals as goal

pub returns-in_err-moment : goal.returns-in_err-moment
returns-in_err-moment c = search rules

pub returns : goal.returns
returns c = search rules
