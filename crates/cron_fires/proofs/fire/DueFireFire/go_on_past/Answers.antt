use Rattle.cron_seconds.proofs.LawLemmas.{cut_after, cut_past}
use Rattle.cron_dues.specs.Due.{clock_of, instant}
use Rattle.cron_dues.specs.Dues.{dues, is_past}
use Rattle.cron_dues.proofs.RuleLemmas.{due-order, dues-in_order}
use Rattle.cron_fires.proofs.fire.DueFireFire.go_on_past.Goals as goal

pub returns : goal.returns
returns c = (
  λ s z t. cut_after instant is_past due-order (dues s z) (dues-in_order s (clock_of z)) t,
  λ s z fire. cut_past instant is_past due-order (dues s z) (dues-in_order s (clock_of z)) fire,
)
