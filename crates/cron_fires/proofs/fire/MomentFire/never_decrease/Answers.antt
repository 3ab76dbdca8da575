use Rattle.std.specs.Prelude.{filter}
use Rattle.cron_seconds.proofs.OrderLemmas.{never-decreases, part-in_order}
use Rattle.cron_moments.specs.Readings.{instant}
use Rattle.cron_instants.specs.Fires.{fires, is_after}
use Rattle.cron_instants.specs.Order.{is_earlier}
use Rattle.cron_instants.proofs.AscentLemmas.{earlier-order}
use Rattle.cron_instants.proofs.FireLemmas.{fires-in_order}
use Rattle.cron_fires.proofs.fire.MomentFire.never_decrease.Goals as goal

pub returns : goal.returns
returns c = (
  λ s z t. never-decreases instant is_earlier earlier-order (filter (is_after t) (fires s z)) (part-in_order instant is_earlier earlier-order (is_after t) (fires s z) (fires-in_order s z)),
  λ s z fire. never-decreases instant is_earlier earlier-order (filter (is_earlier fire) (fires s z)) (part-in_order instant is_earlier earlier-order (is_earlier fire) (fires s z) (fires-in_order s z)),
)
