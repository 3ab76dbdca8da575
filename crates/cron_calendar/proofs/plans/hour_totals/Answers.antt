use Rattle.std.proofs.Common.{◌*◌}
use Rattle.jiff.specs.Words.{plain_zone}
use Rattle.cron_calendar.specs.Plans.{hour_counts_of}
use Rattle.cron_calendar.proofs.PlanLemmas.{totals-more}
use Rattle.cron_calendar.proofs.plans.hour_totals.Goals as goal

pub loop-plan-preserved : goal.loop-plan-preserved
loop-plan-preserved c =
    totals-more (hour_counts_of (plain_zone c.args.zone.now) c.args.first c.args.days) (c.args.days * 24) c.loop-plan.plan-index c.args.plans.now c.plan-item.result
    c.loop-plan.counts.items c.in_ok-more.more.items _ _ _ c.loop-plan-test.true c.plan-item.is c.loop-plan.invariant c.in_ok-more.ensures
    c.as_slice.ensures.value c.as_slice-in-loop-plan.ensures.value c.in_ok-counts-2.ensures
