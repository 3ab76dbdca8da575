use Rattle.std.proofs.Common.{◌≡◌, ◌++◌}
use Rattle.jiff.specs.Words.{plain_zone}
use Rattle.cron_calendar.specs.DayLists.{day_list}
use Rattle.cron_calendar.specs.Grids.{from_to}
use Rattle.cron_calendar.proofs.pages.push_named.Given as goal

abbrev pub invariant-loop-day : goal.invariant-loop-day
invariant-loop-day l = l.text.items ≡ l.fn.text.items ++ from_to (day_list l.shown.controls (plain_zone l.zone) l.plans) l.first l.day
