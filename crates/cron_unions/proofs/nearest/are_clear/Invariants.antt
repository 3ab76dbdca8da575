use Rattle.std.proofs.Common.{take}
use Rattle.cron_unions.proofs.NearestLemmas.{AreClear}
use Rattle.cron_unions.proofs.nearest.are_clear.Given as goal

abbrev pub invariant-loop-set : goal.invariant-loop-set
invariant-loop-set g l = AreClear g.S.CivilSeconds.has (take l.set-index l.sets) l.first l.end
