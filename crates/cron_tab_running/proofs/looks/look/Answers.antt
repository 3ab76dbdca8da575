use Rattle.std.proofs.Common.{inr, refl}
use Rattle.std.specs.Prelude.{Ok, Err}
use Rattle.cron_tab_running.proofs.looks.look.Goals as goal

pub returns-in-Ok-read : goal.returns-in-Ok-read
returns-in-Ok-read g c = (refl, refl, refl, inr (c.in-Ok.now, Ok c.in-Ok-read.tabs, c.in-Ok.ensures, c.in-Ok-read.ensures, c.later-clock.ensures, refl))

pub returns-in-Err-read : goal.returns-in-Err-read
returns-in-Err-read g c = (refl, refl, refl, inr (c.in-Ok.now, Err c.in-Err-read.error, c.in-Ok.ensures, c.in-Err-read.ensures, c.later-clock.ensures, refl))
