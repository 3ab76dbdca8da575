use Rattle.std.proofs.Common.{rules}
use Rattle.cron_walk_listing.proofs.answer.usage.Goals as goal

pub returns-in-WriteFailed-clause-answered : goal.returns-in-WriteFailed-clause-answered
returns-in-WriteFailed-clause-answered c = search rules

pub returns-in-WriteFailed-clause-mark : goal.returns-in-WriteFailed-clause-mark
returns-in-WriteFailed-clause-mark c = search rules

pub returns-in_default : goal.returns-in_default
returns-in_default c = search rules
