use Rattle.std.proofs.Common.{◌≡◌, ◌++◌, take}
use Rattle.cron_calendar.specs.Html.{escaped}
use Rattle.cron_calendar.proofs.html.escape.push_escaped.Given as goal

abbrev pub invariant-loop-byte : goal.invariant-loop-byte
invariant-loop-byte l = l.page.items ≡ l.fn.page.items ++ escaped (take l.byte-index l.text)
