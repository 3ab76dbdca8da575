use Rattle.cron_time.proofs.TimelineLaws.{items_match}
use Rattle.cron.proofs.laws.matching_items.Goals as goal

pub returns : goal.returns
returns c = items_match
