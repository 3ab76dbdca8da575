use Rattle.std.proofs.Common.{refl}
use Rattle.cron_calendar.proofs.GridLemmas.{from_to-more, from_to-none}
use Rattle.cron_calendar.proofs.grid.push_line.Goals as goal

pub loop-month-init : goal.loop-month-init
loop-month-init c = from_to-none _ c.args.row.first _ c.args.page.now.items _ refl refl

pub loop-month-preserved : goal.loop-month-preserved
loop-month-preserved c =
    from_to-more _ c.args.row.first c.loop-month.month c.args.page.now.items _ _ _ c.loop-month.auto.month c.loop-month.invariant refl
    c.in_ok-push_month_line.ensures
