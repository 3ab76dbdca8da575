use Rattle.std.proofs.Common.{rules}
use Rattle.cron_walk_listing.proofs.arguments.read.Goals as goal

pub returns-in_err-ok-clause-succeeds : goal.returns-in_err-ok-clause-succeeds
returns-in_err-ok-clause-succeeds c = search rules

pub returns-in_err-ok-clause-value : goal.returns-in_err-ok-clause-value
returns-in_err-ok-clause-value c = search rules

pub returns-in_err-zone_of-clause-succeeds : goal.returns-in_err-zone_of-clause-succeeds
returns-in_err-zone_of-clause-succeeds c = search rules

pub returns-in_err-zone_of-clause-value : goal.returns-in_err-zone_of-clause-value
returns-in_err-zone_of-clause-value c = search rules

pub returns-in_err-count_of-clause-succeeds : goal.returns-in_err-count_of-clause-succeeds
returns-in_err-count_of-clause-succeeds c = search rules

pub returns-in_err-count_of-clause-value : goal.returns-in_err-count_of-clause-value
returns-in_err-count_of-clause-value c = search rules

pub returns-clause-succeeds : goal.returns-clause-succeeds
returns-clause-succeeds c = search rules

pub returns-clause-value : goal.returns-clause-value
returns-clause-value c = search rules
