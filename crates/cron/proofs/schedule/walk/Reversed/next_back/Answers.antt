use Rattle.std.proofs.Common.{rules}
use Rattle.cron.proofs.schedule.walk.Reversed.next_back.Goals as goal

pub returns : goal.returns
returns c = search rules
