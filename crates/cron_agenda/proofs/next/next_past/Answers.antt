use Rattle.std.proofs.Common.{Some, None}
use Rattle.jiff.specs.Words.{plain_zone}
use Rattle.cron_agenda.proofs.NextLemmas.{next_due, next_shown}
use Rattle.cron_agenda.proofs.next.next_past.Goals as goal

pub returns-in-Some : goal.returns-in-Some
returns-in-Some g c = rw c.in-AsShown.is (next_shown (g.T.CivilSeconds.has c.args.table.now) (plain_zone c.args.zone.now) c.in-AsShown.moment (Some c.in-Some.next) c.in-Some.ensures)

pub returns-in-None : goal.returns-in-None
returns-in-None g c = c.first_past.ensures

pub returns-in-Some-next_due : goal.returns-in-Some-next_due
returns-in-Some-next_due g c = rw c.in-Once.is (next_due (g.T.CivilSeconds.has c.args.table.now) (plain_zone c.args.zone.now) c.in-Once.due (Some c.in-Some-next_due.next) c.in-Some-next_due.ensures)

pub returns-in-None-next_due : goal.returns-in-None-next_due
returns-in-None-next_due g c = rw c.in-Once.is (next_due (g.T.CivilSeconds.has c.args.table.now) (plain_zone c.args.zone.now) c.in-Once.due None c.in-None-next_due.ensures)
