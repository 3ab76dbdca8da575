use Rattle.std.proofs.Common.{refl, arith}
use Rattle.cron_calendar.proofs.GridLemmas.{from_to-more}
use Rattle.cron_calendar.proofs.grid.push_row.Goals as goal

pub loop-line-preserved : goal.loop-line-preserved
loop-line-preserved c =
    from_to-more _ 0 c.loop-line.line c.args.page.now.items _ _ _ (omega arith) c.loop-line.invariant refl c.in_ok-push_line.ensures
