use Rattle.std.proofs.Common.{rules}
use Rattle.cron_clocks.proofs.rule.day_of_week.Goals as goal

pub returns-else-week-eq5 : goal.returns-else-week-eq5
returns-else-week-eq5 c = search rules
