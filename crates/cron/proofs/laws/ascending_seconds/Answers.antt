use Rattle.cron_time.proofs.TimelineLaws.{never_decrease}
use Rattle.cron.proofs.laws.ascending_seconds.Goals as goal

pub returns : goal.returns
returns c = never_decrease
