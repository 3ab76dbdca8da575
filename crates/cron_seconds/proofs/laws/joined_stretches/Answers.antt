use Rattle.cron_seconds.proofs.LawLemmas.{joined}
use Rattle.cron_seconds.proofs.laws.joined_stretches.Goals as goal

pub returns : goal.returns
returns g c = λ s clock. joined g.R.Rule.at g.R.Rule.is_past c.in_order.ensures.order (g.R.Rule.fires s clock) (c.in_order.ensures.fires s clock)
