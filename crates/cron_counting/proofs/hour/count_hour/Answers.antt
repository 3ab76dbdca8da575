use Rattle.std.proofs.Common.{sym, ◌∙◌, arith}
use Rattle.cron_counting.proofs.HourLemmas.{by-seconds, missed-hour, no-second}
use Rattle.cron_counting.proofs.TotalLemmas.{add-more, keep-more, total-none}
use Rattle.cron_counting.proofs.hour.count_hour.Goals as goal
use Rattle.cron_counting.proofs.hour.count_hour.Goals.{then-contains, else-contains}

pub returns-then-misses_hour-clause-value : goal.returns-then-misses_hour-clause-value
returns-then-misses_hour-clause-value c = missed-hour c.args.times.now c.args.span c.args.hour (c.misses_hour.ensures c.if-misses_hour.true)

pub loop-second-init : goal.loop-second-init
loop-second-init c = (sym (total-none _), omega arith)

pub loop-second-preserved : goal.loop-second-preserved
loop-second-preserved c = elim c.if-contains.branch [
  | then-contains w ↦ (
    w.count-is ∙ add-more _ c.loop-second.second _ _ c.loop-second.invariant.0 w.count_second-count.ensures.value,
    omega (arith, w.count-is, c.loop-second.invariant.1, w.count_second-count.ensures.few),
  )
  | else-contains w ↦ (
    w.count-is ∙ keep-more _ c.loop-second.second _ c.loop-second.invariant.0
        (no-second c.args.times.now c.args.span c.args.hour c.loop-second.second c.loop-second-test.true
        (sym (c.seconds_at-seconds.ensures c.loop-second.second) ∙ (sym c.contains.ensures ∙ w.if-contains.false))),
    omega (arith, w.count-is, c.loop-second.invariant.1),
  )
]

pub returns-clause-value : goal.returns-clause-value
returns-clause-value c =
    by-seconds c.args.times.now c.args.span c.args.hour _ c.loop-second.second (omega (arith, c.loop-second-test.false, c.loop-second.auto.second-end))
    c.loop-second.invariant.0
