use Rattle.std.proofs.Common.{◌≡◌, ◌++◌, drop, map, filter}
use Rattle.cron_tab_systemd.specs.Entries.{skips}
use Rattle.cron_tab_systemd.proofs.entries.push_skips.Given as goal

-- what was appended, with the notes on the days that are left, is what all of them make
abbrev pub invariant-loop-day : goal.invariant-loop-day
invariant-loop-day l =
    l.made.items ++ map (skips l.line) (filter (λ d. d.skipped) (drop l.day-index l.days)) ≡ l.initial.made.items ++ map (skips l.line) (filter (λ d. d.skipped) l.days)
