use Rattle.cron_counting.proofs.ListLemmas.{hour-more}
use Rattle.cron_counting.proofs.counts.push_each.Goals as goal

pub loop-hour-preserved : goal.loop-hour-preserved
loop-hour-preserved c = (
  hour-more _ c.loop-hour.hour c.args.counts.now.items _ _ c.count_readings.result c.loop-hour.invariant.0 c.count_readings.ensures.value
      c.in_ok-push.ensures.items,
  c.count_readings.ensures.known,
)
