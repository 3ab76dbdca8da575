use Rattle.std.proofs.Common.{refl, ◌+◌, ◌*◌, arith}
use Rattle.jiff.specs.Words.{plain_zone}
use Rattle.cron_calendar.specs.Grids.{day_at}
use Rattle.cron_calendar.specs.Pages.{month_cell}
use Rattle.cron_calendar.proofs.GridLemmas.{from_to-end, from_to-more}
use Rattle.cron_calendar.proofs.html.month.push_cells.Goals as goal

pub loop-column-preserved : goal.loop-column-preserved
loop-column-preserved c =
    from_to-more (λ column. month_cell (plain_zone c.args.zone.now) c.args.plans.now c.args.month (day_at c.args.month (c.args.week * 7 + column))) 0
    c.loop-column.column c.args.page.now.items _ _ _ (omega arith) c.loop-column.invariant refl c.in_ok-push_cell.ensures

pub returns : goal.returns
returns c =
    from_to-end (λ column. month_cell (plain_zone c.args.zone.now) c.args.plans.now c.args.month (day_at c.args.month (c.args.week * 7 + column))) 0
    c.loop-column.column 7 c.args.page.now.items _ (omega (arith, c.loop-column-test.false, c.loop-column.auto.column-end)) c.loop-column.invariant
