use Rattle.std.proofs.Common.{refl, arith}
use Rattle.jiff.specs.Words.{plain_zone}
use Rattle.cron_calendar.specs.DayLists.{day_list}
use Rattle.cron_calendar.proofs.GridLemmas.{from_to-more}
use Rattle.cron_calendar.proofs.pages.push_named.Goals as goal

pub loop-day-preserved : goal.loop-day-preserved
loop-day-preserved c =
    from_to-more (day_list c.args.shown.controls (plain_zone c.args.zone.now) c.args.plans.now) c.args.first c.loop-day.day c.args.text.now.items _ _ _
    (omega arith) c.loop-day.invariant refl c.in_ok-push_day_list.ensures
