use Rattle.std.proofs.Common.{◌≡◌, ◌++◌}
use Rattle.jiff.specs.Words.{plain_zone}
use Rattle.cron_calendar.specs.Grids.{from_to}
use Rattle.cron_calendar.specs.Pages.{week_cells}
use Rattle.cron_calendar.proofs.html.month.push_weeks.Given as goal

abbrev pub invariant-loop-week : goal.invariant-loop-week
invariant-loop-week l = l.page.items ≡ l.fn.page.items ++ from_to (week_cells (plain_zone l.zone) l.plans l.month) 0 l.week
