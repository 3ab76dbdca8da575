use Rattle.std.proofs.Common.{rules}
use Rattle.cron.proofs.schedule.expression.SchedulePartialEq.eq.Goals as goal

pub returns : goal.returns
returns c = search rules
