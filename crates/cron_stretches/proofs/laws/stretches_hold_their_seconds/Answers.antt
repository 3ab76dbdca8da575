use Rattle.cron_stretches.proofs.StretchLemmas.{alike-each, has-second}
use Rattle.cron_stretches.proofs.laws.stretches_hold_their_seconds.Goals as goal

pub returns : goal.returns
returns g c = λ eq value from to equal. (alike-each eq equal value from to, has-second eq equal value from to)
