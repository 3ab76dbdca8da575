use Rattle.std.proofs.Common.{rules}
use Rattle.cron_walk_listing.proofs.run.neighbour.Goals as goal

pub returns-then-back : goal.returns-then-back
returns-then-back c = search rules

pub returns-else-back : goal.returns-else-back
returns-else-back c = search rules
