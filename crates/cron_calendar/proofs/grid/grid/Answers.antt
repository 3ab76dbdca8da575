use Rattle.std.proofs.Common.{refl, []}
use Rattle.cron_calendar.proofs.GridLemmas.{from_to-more}
use Rattle.cron_calendar.proofs.grid.grid.Goals as goal

pub loop-month-preserved : goal.loop-month-preserved
loop-month-preserved c =
    from_to-more _ c.args.first c.loop-month.month [] _ _ _ c.loop-month.auto.month c.loop-month.invariant refl c.in_ok-push_row_from.ensures
