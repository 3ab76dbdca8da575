use Rattle.std.proofs.Common.{◌≡◌, ◌+◌, ◌-◌, ◌*◌, ◌≤◌, ◌++◌}
use Rattle.jiff.specs.Words.{plain_zone}
use Rattle.cron_calendar.proofs.TimeLemmas.{seconds_in}
use Rattle.cron_calendar.proofs.times.first_on.Given as goal

abbrev pub invariant-loop-second : goal.invariant-loop-second
invariant-loop-second g l =
    (l.day * 86_400 ≤ l.from) × (l.from ≤ l.end) × (l.end ≡ l.day * 86_400 + 86_400)
    × (seconds_in (g.S.CivilSeconds.has l.set) (plain_zone l.zone) (l.day * 86_400) l.end ≡ l.times.items ++ seconds_in (g.S.CivilSeconds.has l.set) (plain_zone l.zone) l.from l.end)

abbrev pub decreases-loop-second : goal.decreases-loop-second
decreases-loop-second g l = l.end - l.from
