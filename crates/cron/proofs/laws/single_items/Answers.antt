use Rattle.cron_time.proofs.TimelineLaws.{stand_once}
use Rattle.cron.proofs.laws.single_items.Goals as goal

pub returns : goal.returns
returns c = stand_once
