use Rattle.std.proofs.Common.{◌+◌, ◌-◌, pos, subst, sym}
use Rattle.cron_units.specs.Nearest.{IsNearest}
use Rattle.cron_unions.proofs.NearestLemmas.{nearest-of_both}
use Rattle.cron_days.specs.Inner.Times.{has_time, has_time_on_any}
use Rattle.cron_days.proofs.TimeLemmas.{any_below, any_more}
use Rattle.cron_days.proofs.times.time_on_any.Goals as goal

pub loop-day-preserved : goal.loop-day-preserved
loop-day-preserved g c =
    let s = g.S.CivilSeconds.has c.args.set.now in
    let first = c.args.first in
    let day = c.loop-day.day in
    subst (IsNearest c.args.way (has_time_on_any s first (day + 1 - first)) (pos c.args.time)) (sym c.nearer-best.ensures)
    (nearest-of_both c.args.way (has_time_on_any s first (day - first)) (has_time s day) (has_time_on_any s first (day + 1 - first)) (pos c.args.time)
    (λ k. any_more s first day k c.loop-day.auto.day) c.loop-day.best c.time_on.result c.loop-day.invariant c.time_on.ensures)

pub returns-clause-bound : goal.returns-clause-bound
returns-clause-bound g c =
    any_below c.args.way (g.S.CivilSeconds.has c.args.set.now) c.args.first (c.loop-day.day - c.args.first) (pos c.args.time) c.loop-day.best c.loop-day.invariant
