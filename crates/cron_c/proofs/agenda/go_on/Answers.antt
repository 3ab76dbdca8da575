use Rattle.cron_c.proofs.AgendaLemmas.{goes_on}
use Rattle.cron_c.proofs.agenda.go_on.Goals as goal

pub returns : goal.returns
returns c =
    goes_on c.args.schedules.now c.args.eras.now c.args.entry.now c.in-Some.own.now c.in-Some-part_of.zone.now c.args.next.now c.follow.new.item
    c.follow.result (c.in-Some.ensures.0, c.in-Some-part_of.ensures.0) c.in-Some.ensures.1 c.in-Some-part_of.ensures.1 c.requires c.follow.ensures
