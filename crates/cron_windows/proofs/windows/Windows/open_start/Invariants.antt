use Rattle.std.proofs.Common.{ℤ, pos, ◌+ℤ◌, ◌-ℤ◌, ◌≤ℤ◌, true}
use Rattle.cron_stretches.specs.Stretches.{seconds_from}
use Rattle.cron_windows.specs.Windows.{AllAre, is_open}
use Rattle.cron_windows.proofs.windows.Windows.open_start.Given as goal

abbrev pub invariant-loop-first : goal.invariant-loop-first
invariant-loop-first g l = (l.from ≤ℤ l.first) × (l.first ≤ℤ l.second) × AllAre (is_open l.self) l.first (l.second +ℤ pos 1) true

abbrev pub decreases-loop-first : goal.decreases-loop-first
decreases-loop-first g l = seconds_from (l.first -ℤ l.from)
