use Rattle.jiff.specs.Words.{plain_zone}
use Rattle.cron_instants.proofs.ItemLemmas as item
use Rattle.cron_instants.proofs.instants.first_past.Goals as goal

pub returns : goal.returns
returns g c =
    item.first_past (g.S.CivilSeconds.has c.args.set.now) (plain_zone c.args.zone.now) c.args.fire.now c.first_item.result
    (rw (c.of.ensures.instant, c.of.ensures.second) at c.first_item.ensures)
