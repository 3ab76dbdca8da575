use Rattle.std.proofs.Common.{rules}
use Rattle.cron_ics.specs.Stamps.{time_digits}
use Rattle.cron_ics.proofs.stamp.time_digits.Goals as goal

pub returns : goal.returns
unfolding time_digits
returns c = search rules
