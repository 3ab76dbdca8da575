use Rattle.cron_seconds.proofs.LawLemmas.{cut_after, cut_past}
use Rattle.cron_moments.specs.Readings.{instant}
use Rattle.cron_instants.specs.Fires.{fires}
use Rattle.cron_instants.specs.Order.{is_earlier}
use Rattle.cron_instants.proofs.AscentLemmas.{earlier-order}
use Rattle.cron_instants.proofs.FireLemmas.{fires-in_order}
use Rattle.cron_fires.proofs.fire.MomentFire.go_on_past.Goals as goal

pub returns : goal.returns
returns c = (
  λ s z t. cut_after instant is_earlier earlier-order (fires s z) (fires-in_order s z) t,
  λ s z fire. cut_past instant is_earlier earlier-order (fires s z) (fires-in_order s z) fire,
)
