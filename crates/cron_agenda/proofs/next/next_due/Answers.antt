use Rattle.jiff.specs.Words.{plain_zone}
use Rattle.cron_agenda.proofs.NextLemmas.{due_next, no_due_next}
use Rattle.cron_agenda.proofs.next.next_due.Goals as goal

pub returns-in_err-second : goal.returns-in_err-second
returns-in_err-second g c =
    rw c.from_residual.ensures (no_due_next (g.T.CivilSeconds.has c.args.table.now) (plain_zone c.args.zone.now) c.args.fire.now
    (rw c.nominal_second.ensures at c.in_err-second.ensures))

pub returns : goal.returns
returns g c =
    due_next (g.T.CivilSeconds.has c.args.table.now) (plain_zone c.args.zone.now) c.args.fire.now c.due_of.result c.in_ok-second.second c.due_of.ensures
    (rw c.nominal_second.ensures at c.in_ok-second.ensures)
