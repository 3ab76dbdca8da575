use Rattle.cron_quartz_days.proofs.TextLemmas.{each_is_told_once}
use Rattle.cron_quartz_days.proofs.laws.each_is_told_once.Goals as goal

pub returns : goal.returns
returns c = each_is_told_once
