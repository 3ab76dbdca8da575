use Rattle.std.proofs.Common.{◌-◌, pos}
use Rattle.cron_units.specs.Nearest.{IsNearest}
use Rattle.cron_days.specs.Inner.Times.{has_time_on_any}
use Rattle.cron_days.proofs.times.time_on_any.Given as goal

abbrev pub invariant-loop-day : goal.invariant-loop-day
invariant-loop-day g l = IsNearest l.way (has_time_on_any (g.S.CivilSeconds.has l.set) l.first (l.day - l.first)) (pos l.time) l.best
