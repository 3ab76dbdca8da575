use Rattle.jiff.specs.Words.{plain_zone}
use Rattle.cron_instants.specs.Beyond.{IsSought, left_to_pass}
use Rattle.cron_instants.proofs.nearest.nearest_item.Given as goal

abbrev pub invariant-loop-next : goal.invariant-loop-next
invariant-loop-next g l = IsSought l.way (g.S.CivilSeconds.has l.set) (plain_zone l.zone) l.mark.instant l.mark.second l.next l.best

abbrev pub decreases-loop-next : goal.decreases-loop-next
decreases-loop-next g l = left_to_pass l.way l.next
