use Rattle.std.proofs.Common.{rules}
use Rattle.cron.proofs.schedule.expression.Schedule.last_time.Goals as goal

pub returns-clause-time : goal.returns-clause-time
returns-clause-time c = rw c.filled_fields.ensures.sets at c.nearest_time.ensures.time

pub returns-clause-questions : goal.returns-clause-questions
returns-clause-questions c = search rules
