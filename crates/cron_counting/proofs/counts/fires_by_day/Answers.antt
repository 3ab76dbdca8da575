use Rattle.std.proofs.Common.{arith}
use Rattle.jiff.specs.Words.{plain_zone}
use Rattle.cron_counting.proofs.ListLemmas.{day-more}
use Rattle.cron_counting.proofs.counts.fires_by_day.Goals as goal

pub loop-day-preserved : goal.loop-day-preserved
loop-day-preserved c = (
  day-more c.args.schedules.now (plain_zone c.args.zone.now) c.args.first c.loop-day.day _ _ _ _ c.count_readings.result
      c.loop-day.auto.day (omega (arith, c.loop-day-test.true, c.requires)) c.as_slice.ensures.value c.in_ok-gather_day.ensures
      c.loop-day.invariant.0 c.count_readings.ensures.value c.in_ok-push.ensures.items,
  c.count_readings.ensures.known,
)
