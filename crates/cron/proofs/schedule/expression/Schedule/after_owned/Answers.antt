use Rattle.std.proofs.Common.{rules}
use Rattle.cron.proofs.schedule.expression.Schedule.after_owned.Goals as goal

pub returns-clause-sets : goal.returns-clause-sets
returns-clause-sets c = search rules

pub returns-clause-zone : goal.returns-clause-zone
returns-clause-zone c = search rules

pub returns-clause-cursor : goal.returns-clause-cursor
returns-clause-cursor c = search rules

pub returns-clause-succeeds : goal.returns-clause-succeeds
returns-clause-succeeds c = search rules
