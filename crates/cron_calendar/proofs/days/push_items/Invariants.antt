use Rattle.std.proofs.Common.{◌≡◌, ◌++◌, flat_map, take}
use Rattle.jiff.specs.Words.{plain_zone}
use Rattle.cron_calendar.specs.DayLists.{entry_item}
use Rattle.cron_calendar.proofs.days.push_items.Given as goal

abbrev pub invariant-loop-plan : goal.invariant-loop-plan
invariant-loop-plan l = l.page.items ≡ l.fn.page.items ++ flat_map (entry_item (plain_zone l.zone) l.day) (take l.plan-index l.plans)
