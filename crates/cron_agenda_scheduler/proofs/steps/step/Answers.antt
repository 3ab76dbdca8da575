use Rattle.std.proofs.Common.{ap, refl}
use Rattle.std.specs.Prelude.{Ok, Err}
use Rattle.cron_agenda_scheduler.proofs.steps.step.Goals as goal

pub returns-in-Ok : goal.returns-in-Ok
returns-in-Ok g c = record { deeds = c.in-Ok.ensures.0; turned = Ok c.in-Ok.left; turns = c.in-Ok.ensures.1; told = ap Ok c.is_some.ensures }

pub returns-in-Err : goal.returns-in-Err
returns-in-Err g c = record { deeds = c.in-Err.ensures.0; turned = Err c.in-Err.stop; turns = c.in-Err.ensures.1; told = refl }
