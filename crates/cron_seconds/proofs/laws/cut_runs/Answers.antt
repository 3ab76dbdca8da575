use Rattle.cron_seconds.proofs.LawLemmas.{cut_after, cut_between, cut_past}
use Rattle.cron_seconds.proofs.laws.cut_runs.Goals as goal

pub returns-clause-after : goal.returns-clause-after
returns-clause-after g c = λ s clock.
    cut_after g.R.Rule.at g.R.Rule.is_past c.in_order.ensures.order (g.R.Rule.fires s clock) (c.in_order.ensures.fires s clock)

pub returns-clause-past : goal.returns-clause-past
returns-clause-past g c = λ s clock.
    cut_past g.R.Rule.at g.R.Rule.is_past c.in_order.ensures.order (g.R.Rule.fires s clock) (c.in_order.ensures.fires s clock)

pub returns-clause-between : goal.returns-clause-between
returns-clause-between g c = λ s clock.
    cut_between g.R.Rule.at g.R.Rule.is_past c.in_order.ensures.order (g.R.Rule.fires s clock) (c.in_order.ensures.fires s clock)
