use Rattle.std.specs.Prelude.{filter}
use Rattle.cron_seconds.proofs.OrderLemmas.{never-decreases, part-in_order}
use Rattle.cron_dues.specs.Due.{clock_of, instant}
use Rattle.cron_dues.specs.Dues.{dues, is_due_after, is_past}
use Rattle.cron_dues.proofs.RuleLemmas.{due-order, dues-in_order}
use Rattle.cron_fires.proofs.fire.DueFireFire.never_decrease.Goals as goal

pub returns : goal.returns
returns c = (
  λ s z t. never-decreases instant is_past due-order (filter (is_due_after t) (dues s z)) (part-in_order instant is_past due-order (is_due_after t) (dues s z) (dues-in_order s (clock_of z))),
  λ s z fire. never-decreases instant is_past due-order (filter (is_past fire) (dues s z)) (part-in_order instant is_past due-order (is_past fire) (dues s z) (dues-in_order s (clock_of z))),
)
