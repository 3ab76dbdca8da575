use Rattle.std.proofs.Common.{rules}
use Rattle.cron.proofs.schedule.expression.Schedule.first_at_or_after.Goals as goal

pub returns-clause-found : goal.returns-clause-found
returns-clause-found c = search rules

pub returns-clause-days : goal.returns-clause-days
returns-clause-days c = search rules

pub returns-clause-conversions : goal.returns-clause-conversions
returns-clause-conversions c = search rules
