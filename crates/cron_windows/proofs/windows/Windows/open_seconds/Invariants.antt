use Rattle.std.proofs.Common.{◌≡◌, ◌+◌, ◌<◌, ◌^◌, ℤ, ◌-ℤ◌, ◌≤ℤ◌}
use Rattle.cron_stretches.specs.Stretches.{count_between, seconds_from}
use Rattle.cron_stretches.specs.Fires.{IsInstant}
use Rattle.cron_windows.specs.Windows.{is_open}
use Rattle.cron_windows.proofs.windows.Windows.open_seconds.Given as goal

abbrev pub invariant-loop-place : goal.invariant-loop-place
invariant-loop-place g l = IsInstant l.place × IsInstant l.to × (l.initial.place ≤ℤ l.place) × IsInstant l.initial.place
    × (l.seconds + count_between (is_open l.self) l.place l.to ≡ count_between (is_open l.self) l.initial.place l.to)

abbrev pub decreases-loop-place : goal.decreases-loop-place
decreases-loop-place g l = seconds_from (l.to -ℤ l.place)
