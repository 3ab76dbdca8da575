use Rattle.cron_quartz_days.proofs.RangeLemmas.{ranges_come_round}
use Rattle.cron_quartz_days.proofs.laws.ranges_come_round.Goals as goal

pub returns : goal.returns
returns c = ranges_come_round
