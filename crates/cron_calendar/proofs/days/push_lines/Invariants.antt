use Rattle.std.proofs.Common.{◌≡◌, ◌++◌, flat_map, take}
use Rattle.jiff.specs.Words.{plain_zone}
use Rattle.cron_calendar.specs.DayLists.{entry_line}
use Rattle.cron_calendar.proofs.days.push_lines.Given as goal

abbrev pub invariant-loop-plan : goal.invariant-loop-plan
invariant-loop-plan l = l.page.items ≡ l.fn.page.items ++ flat_map (entry_line l.controls (plain_zone l.zone) l.day) (take l.plan-index l.plans)
