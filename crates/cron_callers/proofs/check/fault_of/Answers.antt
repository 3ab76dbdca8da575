use Rattle.std.proofs.Common.{rules}
use Rattle.cron_callers.proofs.check.fault_of.Goals as goal

pub returns-in-Ok : goal.returns-in-Ok
returns-in-Ok c = (c.in-Ok._schedule.sets, c.in-Ok.ensures.means)

pub returns-in_err-clone-in-Expression : goal.returns-in_err-clone-in-Expression
returns-in_err-clone-in-Expression c = search rules

pub returns-in-Expression : goal.returns-in-Expression
returns-in-Expression c = search rules

pub returns : goal.returns
returns c = search rules
