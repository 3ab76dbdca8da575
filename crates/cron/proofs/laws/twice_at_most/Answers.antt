use Rattle.cron_time.proofs.TimelineLaws.{twice_at_most}
use Rattle.cron.proofs.laws.twice_at_most.Goals as goal

pub returns : goal.returns
returns c = twice_at_most
