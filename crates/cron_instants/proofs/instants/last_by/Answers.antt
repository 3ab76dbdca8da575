use Rattle.jiff.specs.Words.{plain_zone}
use Rattle.cron_instants.proofs.ItemLemmas as item
use Rattle.cron_instants.proofs.instants.last_by.Goals as goal

pub returns : goal.returns
returns g c =
    item.last_by (g.S.CivilSeconds.has c.args.set.now) (plain_zone c.args.zone.now) c.args.now.nanosecond c.behind.result.instant c.nearest_item.result
    c.behind.ensures.instant (rw c.behind.ensures.second at c.nearest_item.ensures)
