use Rattle.std.proofs.Common.{◌≡◌, ◌++◌}
use Rattle.std.specs.Prelude.{map}
use Rattle.std.specs.List.{range_with_len}
use Rattle.cron_bits.specs.Words.{has_bit}
use Rattle.cron_counting.specs.Inner.Totals.{only_if}
use Rattle.cron_counting.proofs.counts.push_alike.Given as goal

abbrev pub invariant-loop-hour : goal.invariant-loop-hour
invariant-loop-hour l = l.counts.items ≡ l.fn.counts.items ++ map (λ hour. only_if (has_bit l.hours hour) l.count) (range_with_len 0 l.hour)
