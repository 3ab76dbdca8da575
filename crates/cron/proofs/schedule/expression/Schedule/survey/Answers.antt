use Rattle.std.proofs.Common.{rules}
use Rattle.cron.proofs.schedule.expression.Schedule.survey.Goals as goal

pub returns-clause-seconds : goal.returns-clause-seconds
returns-clause-seconds c = search rules

pub returns-clause-conversions : goal.returns-clause-conversions
returns-clause-conversions c = search rules

pub returns-clause-days : goal.returns-clause-days
returns-clause-days c = search rules
