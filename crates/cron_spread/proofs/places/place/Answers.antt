use Rattle.std.proofs.Common.{rules}
use Rattle.cron_spread.specs.Places.{place}
use Rattle.cron_spread.proofs.places.place.Goals as goal

pub returns-clause-value : goal.returns-clause-value
unfolding place
returns-clause-value c = search rules
