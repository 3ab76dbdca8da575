use Rattle.std.proofs.Common.{◌≡◌, ◌+◌, drop, map}
use Rattle.std.specs.List.{prefix_len}
use Rattle.cron_holidays.specs.Contents.{continues}
use Rattle.cron_holidays.specs.Views.{line_view}
use Rattle.cron_holidays.proofs.contents.more_len.Given as goal

abbrev pub invariant-loop-at : goal.invariant-loop-at
invariant-loop-at l = l.at + prefix_len continues (map line_view (drop l.at l.lines)) ≡ prefix_len continues (map line_view l.lines)
