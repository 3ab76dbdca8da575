use Rattle.std.proofs.Common.{rules}
use Rattle.cron.proofs.schedule.walk.Walker.rev.Goals as goal

pub returns : goal.returns
returns c = search rules
