use Rattle.std.proofs.Common.{arith}
use Rattle.jiff.specs.Words.{plain_zone}
use Rattle.cron_counting.proofs.ListLemmas.{hours-more}
use Rattle.cron_counting.proofs.counts.fires_by_hour.Goals as goal

pub loop-day-preserved : goal.loop-day-preserved
loop-day-preserved c = (
  hours-more c.args.schedules.now (plain_zone c.args.zone.now) c.args.first c.loop-day.day _ _ _ _
      c.loop-day.auto.day (omega (arith, c.loop-day-test.true, c.requires)) c.as_slice.ensures.value c.in_ok-gather_day.ensures
      c.loop-day.invariant.0 c.in_ok-push_hours.ensures.counts,
  c.push_hours.ensures.known,
)
