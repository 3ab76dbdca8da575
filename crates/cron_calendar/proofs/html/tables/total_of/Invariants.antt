use Rattle.std.proofs.Common.{◌≡◌, take}
use Rattle.cron_calendar.specs.Pages.{total_of}
use Rattle.cron_calendar.proofs.html.tables.total_of.Given as goal

abbrev pub invariant-loop-count : goal.invariant-loop-count
invariant-loop-count l = l.total ≡ total_of (take l.count-index l.counts)
