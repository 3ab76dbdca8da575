use Rattle.std.proofs.Common.{◌≡◌, ◌++◌}
use Rattle.std.specs.Prelude.{replicate}
use Rattle.cron_calendar.proofs.times.push_times.Given as goal

abbrev pub invariant-loop : goal.invariant-loop
invariant-loop g l = l.times.items ≡ l.fn.times.items ++ replicate l.counter l.second
