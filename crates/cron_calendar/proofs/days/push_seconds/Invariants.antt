use Rattle.std.proofs.Common.{◌≡◌, ◌++◌, codes, flat_map, take}
use Rattle.cron_calendar.specs.DayLists.{short_time}
use Rattle.cron_calendar.proofs.days.push_seconds.Given as goal

abbrev pub invariant-loop-second : goal.invariant-loop-second
invariant-loop-second l = l.page.items ≡ l.fn.page.items ++ flat_map (λ c. short_time c ++ codes " ") (take l.second-index l.seconds)
