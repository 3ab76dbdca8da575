use Rattle.std.proofs.Common.{rules}
use Rattle.cron_walk_listing.proofs.answer.list.Goals as goal

pub returns-clause-answered : goal.returns-clause-answered
returns-clause-answered c = search rules

pub returns-clause-mark : goal.returns-clause-mark
returns-clause-mark c = search rules
