use Rattle.std.proofs.Common.{◌*◌, arith}
use Rattle.cron_counting.proofs.SpanLemmas.{none-before, none-behind}
use Rattle.cron_counting.proofs.TotalLemmas.{add-stretch}
use Rattle.cron_counting.proofs.day.count_hours.Goals as goal

pub loop-hour-init : goal.loop-hour-init
loop-hour-init c = (none-before c.args.times.now c.args.span _ (omega (arith, c.min-first.ensures)), omega arith)

pub loop-hour-preserved : goal.loop-hour-preserved
loop-hour-preserved c = (
  add-stretch _ (c.loop-hour.hour * 3600) 3600 _ _ _ c.loop-hour.invariant.0 c.count_hour-count.ensures.value (omega arith),
  omega (arith, c.loop-hour.invariant.1, c.count_hour-count.ensures.few),
)

pub returns-clause-value : goal.returns-clause-value
returns-clause-value c =
    none-behind c.args.times.now c.args.span (c.loop-hour.hour * 3600) _ (omega (arith, c.loop-hour-test.false, c.loop-hour.auto.hour-end, c.min-end.ensures))
    (λ early. omega (arith, early, c.loop-hour-test.false, c.loop-hour.auto.hour-end, c.min-end.ensures)) c.loop-hour.invariant.0
