use Rattle.std.proofs.Common.{◌≡◌, ◌-◌, ◌*◌}
use Rattle.jiff.specs.Words.{plain_zone}
use Rattle.cron_clocks.specs.Steady.{IsKnown}
use Rattle.cron_unions.specs.Unions.{any_of}
use Rattle.cron_counting.specs.Counts.{counts_by_hour}
use Rattle.cron_counting.proofs.counts.fires_by_hour.Given as goal

abbrev pub invariant-loop-day : goal.invariant-loop-day
invariant-loop-day l =
    (l.counts.items ≡ counts_by_hour (any_of l.schedules) (plain_zone l.zone) (l.first * 24) ((l.day - l.first) * 24)) × IsKnown (plain_zone l.zone) l.stretch
