use Rattle.std.proofs.Common.{◌≡◌, drop, map}
use Rattle.cron_holidays.specs.Lists.{days_listed, with_lines}
use Rattle.cron_holidays.specs.Views.{line_view}
use Rattle.cron_holidays.proofs.list.days_listed.Given as goal

-- the lines that are left lead to the same days
abbrev pub invariant-loop-line : goal.invariant-loop-line
invariant-loop-line l = with_lines l.days.items (map line_view (drop l.line-index l.lines)) ≡ days_listed (map line_view l.lines)
