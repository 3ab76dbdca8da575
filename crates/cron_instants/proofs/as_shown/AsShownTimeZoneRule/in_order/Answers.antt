use Rattle.jiff.specs.Words.{plain_zone}
use Rattle.cron_units.specs.declared.way.Way.TheVariants.{Ahead}
use Rattle.cron_moments.specs.Readings.{instant}
use Rattle.cron_seconds.proofs.OrderLemmas.{part-in_order}
use Rattle.cron_instants.specs.Beyond.{beyond}
use Rattle.cron_instants.specs.Fires.{fires}
use Rattle.cron_instants.specs.Order.{is_earlier}
use Rattle.cron_instants.proofs.AscentLemmas.{earlier-order}
use Rattle.cron_instants.proofs.FireLemmas.{fires-in_order}
use Rattle.cron_instants.proofs.as_shown.AsShownTimeZoneRule.in_order.Goals as goal

pub returns-clause-order : goal.returns-clause-order
returns-clause-order c = earlier-order

pub returns-clause-fires : goal.returns-clause-fires
returns-clause-fires c = λ s zone. fires-in_order s (plain_zone zone)

pub returns-clause-left : goal.returns-clause-left
returns-clause-left c = λ s zone stand.
    part-in_order instant is_earlier earlier-order (beyond Ahead stand.mark.instant stand.mark.second) (fires s (plain_zone zone)) (fires-in_order s (plain_zone zone))
