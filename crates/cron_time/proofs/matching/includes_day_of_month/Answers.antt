use Rattle.std.proofs.Common.{rules}
use Rattle.cron_time.proofs.matching.includes_day_of_month.Goals as goal

pub returns-then-last_day : goal.returns-then-last_day
returns-then-last_day c = search rules
