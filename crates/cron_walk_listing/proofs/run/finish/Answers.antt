use Rattle.std.proofs.Common.{rules}
use Rattle.cron_walk_listing.proofs.run.finish.Goals as goal

pub returns-then-has_failed-clause-ends : goal.returns-then-has_failed-clause-ends
returns-then-has_failed-clause-ends c = search rules

pub returns-then-has_failed-clause-mark : goal.returns-then-has_failed-clause-mark
returns-then-has_failed-clause-mark c = search rules

pub returns-then-has_failed-clause-whole : goal.returns-then-has_failed-clause-whole
returns-then-has_failed-clause-whole c = search rules

pub returns-then-has_failed-2-clause-ends : goal.returns-then-has_failed-2-clause-ends
returns-then-has_failed-2-clause-ends c = search rules

pub returns-then-has_failed-2-clause-mark : goal.returns-then-has_failed-2-clause-mark
returns-then-has_failed-2-clause-mark c = search rules

pub returns-then-has_failed-2-clause-whole : goal.returns-then-has_failed-2-clause-whole
returns-then-has_failed-2-clause-whole c = search rules

pub returns-clause-ends : goal.returns-clause-ends
returns-clause-ends c = search rules

pub returns-clause-mark : goal.returns-clause-mark
returns-clause-mark c = search rules

pub returns-clause-whole : goal.returns-clause-whole
returns-clause-whole c = search rules
