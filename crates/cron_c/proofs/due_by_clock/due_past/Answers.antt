use Rattle.cron_c.proofs.Dues.{follows}
use Rattle.cron_c.proofs.due_by_clock.due_past.Goals as goal

pub returns : goal.returns
returns g c =
    follows (g.S.CivilSeconds.has c.args.set.now) (g.C.Clock.offsets c.args.clock.now) c.in-Some.given c.first_past.result c.args.item.now
    c.write_due.new.item c.write_due.result c.in-Some.ensures c.first_past.ensures c.write_due.ensures
