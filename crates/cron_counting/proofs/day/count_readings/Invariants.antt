use Rattle.std.proofs.Common.{◌≡◌, ◌-◌, ◌≤◌}
use Rattle.jiff.specs.Words.{plain_zone}
use Rattle.cron_clocks.specs.Steady.{IsKnown}
use Rattle.cron_counting.specs.Inner.Times.{readings_in}
use Rattle.cron_counting.specs.Inner.Totals.{total}
use Rattle.cron_counting.proofs.day.count_readings.Given as goal

abbrev pub invariant-loop-first : goal.invariant-loop-first
invariant-loop-first l =
    (l.first ≤ l.span.end) × (l.span.first ≤ l.first)
    × (l.count ≡ total (readings_in l.times (plain_zone l.zone) l.day (record { first = l.span.first; end = l.first })) 86_400)
    × IsKnown (plain_zone l.zone) l.stretch

abbrev pub decreases-loop-first : goal.decreases-loop-first
decreases-loop-first l = l.span.end - l.first
