use Rattle.cron_stretches.proofs.StretchLemmas.{sum-is}
use Rattle.cron_stretches.proofs.laws.seconds_add_up.Goals as goal

pub returns : goal.returns
returns g c = λ eq value test from to equal. sum-is eq equal value test from to
