use Rattle.std.proofs.Common.{rules}
use Rattle.cron.proofs.schedule.expression.StringFromSchedule.from.Goals as goal

pub returns : goal.returns
returns c = search rules
