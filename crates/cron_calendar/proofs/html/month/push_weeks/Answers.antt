use Rattle.std.proofs.Common.{refl, arith}
use Rattle.jiff.specs.Words.{plain_zone}
use Rattle.cron_calendar.specs.Pages.{week_cells}
use Rattle.cron_calendar.proofs.GridLemmas.{from_to-end, from_to-more}
use Rattle.cron_calendar.proofs.html.month.push_weeks.Goals as goal

pub loop-week-preserved : goal.loop-week-preserved
loop-week-preserved c =
    from_to-more (week_cells (plain_zone c.args.zone.now) c.args.plans.now c.args.month) 0 c.loop-week.week c.args.page.now.items _ _ _ (omega arith)
    c.loop-week.invariant refl c.in_ok-push_week.ensures

pub returns : goal.returns
returns c =
    from_to-end (week_cells (plain_zone c.args.zone.now) c.args.plans.now c.args.month) 0 c.loop-week.week 6 c.args.page.now.items _
    (omega (arith, c.loop-week-test.false, c.loop-week.auto.week-end)) c.loop-week.invariant
