use Rattle.cron_days.proofs.LawLemmas.{steps_both}
use Rattle.cron_days.proofs.laws.steps_go_both_ways.Goals as goal

pub returns : goal.returns
returns c = steps_both
