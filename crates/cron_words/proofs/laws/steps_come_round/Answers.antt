use Rattle.cron_words.proofs.StepLaws.{steps_come_round}
use Rattle.cron_words.proofs.laws.steps_come_round.Goals as goal

pub returns : goal.returns
returns c = steps_come_round
