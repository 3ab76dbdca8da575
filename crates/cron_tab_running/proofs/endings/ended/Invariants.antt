use Rattle.std.proofs.Common.{◌≡◌, ◌≤◌, length, take}
use Rattle.cron_tab_running.specs.Ended.{ended}
use Rattle.cron_tab_running.proofs.endings.ended.Given as goal

-- the bytes behind make no difference
abbrev pub invariant-loop-end : goal.invariant-loop-end
invariant-loop-end l = record {
  within : l.end ≤ length l.bytes;
  same : ended (take l.end l.bytes) ≡ ended l.bytes;
}

abbrev pub decreases-loop-end : goal.decreases-loop-end
decreases-loop-end l = l.end
