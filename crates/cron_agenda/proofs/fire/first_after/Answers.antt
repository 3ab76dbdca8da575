use Rattle.std.proofs.Common.{Some, None}
use Rattle.jiff.specs.Words.{plain_zone}
use Rattle.cron_agenda.proofs.NextLemmas.{first_due_after, first_shown_after}
use Rattle.cron_agenda.proofs.fire.first_after.Goals as goal

pub returns-in-Some : goal.returns-in-Some
returns-in-Some g c =
    rw c.in-AsShown.is (first_shown_after (g.T.CivilSeconds.has c.args.table.now) (plain_zone c.args.zone.now) c.args.now.nanosecond (Some c.in-Some.moment) c.in-Some.ensures)

pub returns-in-None : goal.returns-in-None
returns-in-None g c = rw c.in-AsShown.is (first_shown_after (g.T.CivilSeconds.has c.args.table.now) (plain_zone c.args.zone.now) c.args.now.nanosecond None c.in-None.ensures)

pub returns-in-Some-first_due_after : goal.returns-in-Some-first_due_after
returns-in-Some-first_due_after g c =
    rw c.in-Once.is (first_due_after (g.T.CivilSeconds.has c.args.table.now) (plain_zone c.args.zone.now) c.args.now.nanosecond (Some c.in-Some-first_due_after.due) c.in-Some-first_due_after.ensures)

pub returns-in-None-first_due_after : goal.returns-in-None-first_due_after
returns-in-None-first_due_after g c = rw c.in-Once.is (first_due_after (g.T.CivilSeconds.has c.args.table.now) (plain_zone c.args.zone.now) c.args.now.nanosecond None c.in-None-first_due_after.ensures)
