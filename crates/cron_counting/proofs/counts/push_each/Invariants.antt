use Rattle.std.proofs.Common.{◌≡◌, ◌++◌}
use Rattle.std.specs.Prelude.{map}
use Rattle.std.specs.List.{range_with_len}
use Rattle.jiff.specs.Words.{plain_zone}
use Rattle.cron_clocks.specs.Steady.{IsKnown}
use Rattle.cron_counting.specs.Inner.Times.{hour_span, readings_in}
use Rattle.cron_counting.specs.Inner.Totals.{total}
use Rattle.cron_counting.proofs.counts.push_each.Given as goal

abbrev pub invariant-loop-hour : goal.invariant-loop-hour
invariant-loop-hour l =
    (l.counts.items
    ≡ l.fn.counts.items ++ map (λ hour. total (readings_in l.times (plain_zone l.zone) l.day (hour_span hour)) 86_400) (range_with_len 0 l.hour))
    × IsKnown (plain_zone l.zone) l.stretch
