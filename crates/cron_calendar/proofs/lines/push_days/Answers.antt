use Rattle.std.proofs.Common.{ap, arith}
use Rattle.cron_calendar.specs.Cells.{day_cell}
use Rattle.cron_calendar.proofs.GridLemmas.{from_to-end, from_to-more}
use Rattle.cron_calendar.proofs.lines.push_days.Goals as goal

pub loop-column-preserved : goal.loop-column-preserved
loop-column-preserved c =
    from_to-more _ 0 c.loop-column.column c.args.page.now.items _ _ _ (omega arith) c.loop-column.invariant (ap day_cell c.day_at.ensures.day)
    c.in_ok-push_day.ensures

pub returns : goal.returns
returns c =
    from_to-end _ 0 c.loop-column.column 7 c.args.page.now.items _ (omega (arith, c.loop-column-test.false, c.loop-column.auto.column-end))
    c.loop-column.invariant
