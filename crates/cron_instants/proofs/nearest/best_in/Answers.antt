use Rattle.cron_instants.proofs.StretchLemmas.{best_of_one, best_of_two}
use Rattle.cron_instants.proofs.nearest.best_in.Goals as goal

pub returns-in_default-later : goal.returns-in_default-later
returns-in_default-later g c =
    best_of_one c.args.way (g.S.CivilSeconds.has c.args.set.now) c.args.mark.instant c.args.mark.second c.args.stretch.now c.in-Some.earlier c.args.best.now _ c.in-Some.is
    c.in_default-later.is c.best_at-first.ensures

pub returns : goal.returns
returns g c =
    best_of_two c.args.way (g.S.CivilSeconds.has c.args.set.now) c.args.mark.instant c.args.mark.second c.args.stretch.now c.in-Some.earlier c.in-Some-later.later
    c.args.best.now _ _ c.in-Some.is c.in-Some-later.is c.best_at-first.ensures c.best_at.ensures
