use Rattle.jiff.specs.Words.{plain_zone}
use Rattle.cron_calendar.specs.Grids.{from_to}
use Rattle.cron_calendar.specs.Pages.{week_cells}
use Rattle.cron_calendar.specs.declared.html.frames.TheConstants.{MONTH_START}
use Rattle.cron_calendar.proofs.PageLemmas.{on}
use Rattle.cron_calendar.proofs.html.month.push_days.Goals as goal

pub returns : goal.returns
returns c =
    on c.args.page.now.items _ _ MONTH_START.now _ c.in_ok-push_text.ensures
    (on _ _ _ (from_to (week_cells (plain_zone c.args.zone.now) c.args.plans.now c.args.month) 0 6) _ c.in_ok-push_weeks.ensures c.in_ok-push_text-2.ensures)
