use Rattle.std.proofs.Common.{◌≡◌, ◌+◌, drop, false}
use Rattle.cron_tab_lines.specs.Entries.{before_percent}
use Rattle.cron_tab_lines.proofs.percent.before_percent.Given as goal

abbrev pub invariant-loop-at : goal.invariant-loop-at
invariant-loop-at l = l.at + before_percent l.guarded (drop l.at l.task) ≡ before_percent false l.task
