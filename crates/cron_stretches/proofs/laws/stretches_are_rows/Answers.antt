use Rattle.cron_stretches.proofs.StretchLemmas.{row}
use Rattle.cron_stretches.proofs.laws.stretches_are_rows.Goals as goal

pub returns : goal.returns
returns g c = λ eq value from to equal le. row eq equal value from to le
