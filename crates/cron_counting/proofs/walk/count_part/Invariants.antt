use Rattle.std.proofs.Common.{◌+◌}
use Rattle.jiff.specs.Words.{plain_zone}
use Rattle.cron_clocks.specs.Steady.{IsKnown}
use Rattle.cron_counting.proofs.WalkLemmas.{Walked, left_to}
use Rattle.cron_counting.proofs.walk.count_part.Given as goal

abbrev pub invariant-seconds : goal.invariant-seconds
invariant-seconds g l =
    Walked (g.S.CivilSeconds.has l.set) (plain_zone l.zone) l.first (l.first + l.size) l.next l.count × IsKnown (plain_zone l.zone) l.stretch

abbrev pub decreases-seconds : goal.decreases-seconds
decreases-seconds g l = left_to (l.first + l.size) l.next
