use Rattle.cron_seconds.proofs.OrderLemmas.{part-in_order}
use Rattle.cron_dues.specs.Clock.Due.{instant}
use Rattle.cron_dues.specs.Clock.Dues.{dues, is_past}
use Rattle.cron_dues.specs.Left.{is_from}
use Rattle.cron_dues.proofs.RuleLemmas.{due-order, dues-in_order}
use Rattle.cron_dues.proofs.once.OnceRule.in_order.Goals as goal

pub returns-clause-order : goal.returns-clause-order
returns-clause-order g c = due-order

pub returns-clause-fires : goal.returns-clause-fires
returns-clause-fires g c = λ s clock. dues-in_order s (g.C.Clock.offsets clock)

pub returns-clause-left : goal.returns-clause-left
returns-clause-left g c = λ s clock stand.
    part-in_order instant is_past due-order (is_from stand.from) (dues s (g.C.Clock.offsets clock)) (dues-in_order s (g.C.Clock.offsets clock))
