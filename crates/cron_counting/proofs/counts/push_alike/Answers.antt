use Rattle.cron_counting.proofs.ListLemmas.{hour-more}
use Rattle.cron_counting.proofs.counts.push_alike.Goals as goal

pub loop-hour-preserved : goal.loop-hour-preserved
loop-hour-preserved c =
    hour-more _ c.loop-hour.hour c.args.counts.now.items _ _ c.count_at.result c.loop-hour.invariant c.count_at.ensures c.in_ok-push.ensures.items
