use Rattle.std.proofs.Common.{rules}
use Rattle.cron_walk_listing.proofs.run.message_of.Goals as goal

pub returns-in-Expression : goal.returns-in-Expression
returns-in-Expression c = search rules

pub returns-in-OutOfMemory : goal.returns-in-OutOfMemory
returns-in-OutOfMemory c = search rules
