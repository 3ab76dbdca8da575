use Rattle.std.proofs.Common.{rules}
use Rattle.cron.proofs.schedule.expression.Schedule.try_from_str.Goals as goal

pub returns-clause-means : goal.returns-clause-means
returns-clause-means c = search rules

pub returns-clause-source : goal.returns-clause-source
returns-clause-source c = search rules

pub returns-clause-refused : goal.returns-clause-refused
returns-clause-refused c = search rules
