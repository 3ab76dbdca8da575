use Rattle.jiff.specs.Words.{plain_zone}
use Rattle.cron_instants.proofs.StretchLemmas.{best_not_past, passed_on}
use Rattle.cron_instants.proofs.nearest.pass.Goals as goal

pub next_past-requires-clause-best : goal.next_past-requires-clause-best
next_past-requires-clause-best g c =
    let around = c.stretch_around-stretch.ensures in
    best_not_past c.args.way (g.S.CivilSeconds.has c.args.set.now) (plain_zone c.args.zone.now) c.args.mark.instant c.args.mark.second c.args.second _ _ _
    around.steady around.low around.high c.requires.sought c.best_in.ensures

pub returns-clause-sought : goal.returns-clause-sought
returns-clause-sought g c =
    let around = c.stretch_around-stretch.ensures in
    passed_on c.args.way (g.S.CivilSeconds.has c.args.set.now) (plain_zone c.args.zone.now) c.args.mark.instant c.args.mark.second c.args.second _ _ _
    around.steady around.low around.high c.requires.sought c.best_in.ensures c.next_past.result c.next_past.ensures
