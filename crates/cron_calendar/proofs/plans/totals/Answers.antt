use Rattle.jiff.specs.Words.{plain_zone}
use Rattle.cron_calendar.specs.Plans.{counts_of}
use Rattle.cron_calendar.proofs.PlanLemmas.{totals-more}
use Rattle.cron_calendar.proofs.plans.totals.Goals as goal

pub loop-plan-preserved : goal.loop-plan-preserved
loop-plan-preserved c =
    totals-more (counts_of (plain_zone c.args.zone.now) c.args.first c.args.days) c.args.days c.loop-plan.plan-index c.args.plans.now c.plan-item.result
    c.loop-plan.counts.items c.in_ok-more.more.items _ _ _ c.loop-plan-test.true c.plan-item.is c.loop-plan.invariant c.in_ok-more.ensures
    c.as_slice.ensures.value c.as_slice-in-loop-plan.ensures.value c.in_ok-counts-2.ensures
