use Rattle.std.proofs.Common.{refl}
use Rattle.cron_walk_listing.specs.Digits.{with_two_digits}
use Rattle.cron_walk_listing.proofs.kept_line.put_two.Goals as goal

pub returns : goal.returns
unfolding with_two_digits
returns c = refl
