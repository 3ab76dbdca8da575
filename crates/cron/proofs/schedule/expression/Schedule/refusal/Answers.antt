use Rattle.std.proofs.Common.{rules}
use Rattle.cron.proofs.schedule.expression.Schedule.refusal.Goals as goal

pub returns : goal.returns
returns c = search rules
