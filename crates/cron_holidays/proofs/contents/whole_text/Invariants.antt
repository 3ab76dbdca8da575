use Rattle.std.proofs.Common.{◌≡◌, ◌++◌, drop, map}
use Rattle.cron_holidays.specs.Inner.Joined.{more_text}
use Rattle.cron_holidays.specs.Views.{line_view}
use Rattle.cron_holidays.proofs.contents.whole_text.Given as goal

abbrev pub invariant-loop-line : goal.invariant-loop-line
invariant-loop-line l = l.text.items ++ more_text (map line_view (drop l.line-index l.more)) ≡ l.first ++ more_text (map line_view l.more)
