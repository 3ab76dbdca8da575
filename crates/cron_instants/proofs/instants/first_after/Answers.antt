use Rattle.jiff.specs.Words.{plain_zone}
use Rattle.cron_instants.proofs.ItemLemmas as item
use Rattle.cron_instants.proofs.instants.first_after.Goals as goal

pub returns-in-Some : goal.returns-in-Some
returns-in-Some g c =
    item.first_after (g.S.CivilSeconds.has c.args.set.now) (plain_zone c.args.zone.now) c.args.now.nanosecond c.behind-mark.result.instant c.in-Some.first
    c.behind-mark.ensures.instant (rw c.behind-mark.ensures.second at c.in-Some.ensures)

pub returns : goal.returns
returns g c =
    item.first_after (g.S.CivilSeconds.has c.args.set.now) (plain_zone c.args.zone.now) c.args.now.nanosecond c.behind-mark.result.instant c.first_item.result
    c.behind-mark.ensures.instant (rw c.behind-mark.ensures.second at c.first_item.ensures)
