use Rattle.std.proofs.Common.{take}
use Rattle.cron_units.specs.Nearest.{IsNearest}
use Rattle.cron_time.specs.Seconds.{is_match}
use Rattle.cron_unions.specs.Unions.{any_in}
use Rattle.cron_unions.proofs.nearest.nearest_of.Given as goal

abbrev pub invariant-loop-set : goal.invariant-loop-set
invariant-loop-set g l = IsNearest l.way (is_match (any_in g.S.CivilSeconds.has (take l.set-index l.sets))) l.from l.nearest
