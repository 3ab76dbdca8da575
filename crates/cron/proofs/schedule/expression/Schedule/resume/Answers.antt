use Rattle.std.proofs.Common.{rules}
use Rattle.cron.proofs.schedule.expression.Schedule.resume.Goals as goal

pub returns-in_err-state : goal.returns-in_err-state
returns-in_err-state c = search rules

pub returns : goal.returns
returns c = search rules
