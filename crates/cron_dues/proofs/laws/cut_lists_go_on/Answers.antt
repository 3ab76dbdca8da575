use Rattle.cron_dues.proofs.RuleLemmas.{cut_lists}
use Rattle.cron_dues.proofs.laws.cut_lists_go_on.Goals as goal

pub returns : goal.returns
returns c = cut_lists
