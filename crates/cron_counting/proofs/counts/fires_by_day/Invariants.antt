use Rattle.std.proofs.Common.{◌≡◌, ◌-◌}
use Rattle.jiff.specs.Words.{plain_zone}
use Rattle.cron_clocks.specs.Steady.{IsKnown}
use Rattle.cron_unions.specs.Unions.{any_of}
use Rattle.cron_counting.specs.Counts.{counts_by_day}
use Rattle.cron_counting.proofs.counts.fires_by_day.Given as goal

abbrev pub invariant-loop-day : goal.invariant-loop-day
invariant-loop-day l =
    (l.counts.items ≡ counts_by_day (any_of l.schedules) (plain_zone l.zone) l.first (l.day - l.first)) × IsKnown (plain_zone l.zone) l.stretch
