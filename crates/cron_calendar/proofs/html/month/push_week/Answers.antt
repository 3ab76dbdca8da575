use Rattle.std.proofs.Common.{codes, ◌+◌, ◌*◌}
use Rattle.jiff.specs.Words.{plain_zone}
use Rattle.cron_calendar.specs.Grids.{day_at, from_to}
use Rattle.cron_calendar.specs.Pages.{month_cell}
use Rattle.cron_calendar.proofs.PageLemmas.{on}
use Rattle.cron_calendar.proofs.html.month.push_week.Goals as goal

pub returns : goal.returns
returns c =
    on c.args.page.now.items _ _ (codes "<tr>") _ c.in_ok-push_text.ensures
    (on _ _ _ (from_to (λ column. month_cell (plain_zone c.args.zone.now) c.args.plans.now c.args.month (day_at c.args.month (c.args.week * 7 + column))) 0 7) _
    c.in_ok-push_cells.ensures c.in_ok-push_text-2.ensures)
