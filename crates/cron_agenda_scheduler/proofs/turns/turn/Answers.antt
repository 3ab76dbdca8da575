use Rattle.std.proofs.Common.{[], inl, inr, refl}
use Rattle.std.specs.Prelude.{Ok, Err}
use Rattle.cron_agenda_scheduler.proofs.TurnLemmas.{turned}
use Rattle.cron_agenda_scheduler.proofs.turns.turn.Goals as goal

pub returns-in_default : goal.returns-in_default
returns-in_default g c = ([], inl (refl, refl, c.in_default.ensures, refl, refl, refl))

pub returns-in-Err : goal.returns-in-Err
returns-in-Err g c = ([], inr (turned c.in-Some.ensures c.timestamp.result c.timestamp.ensures (Err c.in-Err.error) c.in-Err.ensures (refl, refl, refl, refl)))

pub returns-in-Ok-run_due : goal.returns-in-Ok-run_due
returns-in-Ok-run_due g c =
    (c.in-Ok-run_due.ensures.0, inr (turned c.in-Some.ensures c.timestamp.result c.timestamp.ensures (Ok c.in-Ok.now) c.in-Ok.ensures c.in-Ok-run_due.ensures.1))

pub returns-in-Err-run_due : goal.returns-in-Err-run_due
returns-in-Err-run_due g c =
    (c.in-Err-run_due.ensures.0, inr (turned c.in-Some.ensures c.timestamp.result c.timestamp.ensures (Ok c.in-Ok.now) c.in-Ok.ensures c.in-Err-run_due.ensures.1))
