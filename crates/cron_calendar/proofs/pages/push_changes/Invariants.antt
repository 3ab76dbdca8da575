use Rattle.std.proofs.Common.{◌≡◌, ◌++◌, flat_map, take}
use Rattle.cron_calendar.specs.Pages.{change_line}
use Rattle.cron_calendar.proofs.pages.push_changes.Given as goal

abbrev pub invariant-loop-change : goal.invariant-loop-change
invariant-loop-change l = l.text.items ≡ l.fn.text.items ++ flat_map change_line (take l.change-index l.changes)
