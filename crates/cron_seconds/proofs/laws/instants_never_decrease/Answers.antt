use Rattle.cron_seconds.proofs.OrderLemmas.{never-decreases}
use Rattle.cron_seconds.proofs.laws.instants_never_decrease.Goals as goal

pub returns : goal.returns
returns g c = λ s clock. never-decreases g.R.Rule.at g.R.Rule.is_past c.in_order.ensures.order (g.R.Rule.fires s clock) (c.in_order.ensures.fires s clock)
