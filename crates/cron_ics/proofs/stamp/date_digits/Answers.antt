use Rattle.std.proofs.Common.{rules}
use Rattle.cron_ics.specs.Stamps.{date_digits}
use Rattle.cron_ics.proofs.stamp.date_digits.Goals as goal

pub returns : goal.returns
unfolding date_digits
returns c = search rules
