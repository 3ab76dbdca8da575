use Rattle.std.proofs.Common.{ℤ, pos, ◌+ℤ◌, ◌-ℤ◌, ◌≤ℤ◌, true}
use Rattle.cron_stretches.specs.Stretches.{seconds_from}
use Rattle.cron_windows.specs.Windows.{AllAre, is_open}
use Rattle.cron_windows.proofs.windows.Windows.open_end.Given as goal

abbrev pub invariant-loop-end : goal.invariant-loop-end
invariant-loop-end g l = (l.second ≤ℤ l.end) × (l.end ≤ℤ l.to) × AllAre (is_open l.self) l.second l.end true

abbrev pub decreases-loop-end : goal.decreases-loop-end
decreases-loop-end g l = seconds_from (l.to -ℤ l.end)
