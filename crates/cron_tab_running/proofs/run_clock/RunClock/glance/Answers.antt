use Rattle.std.proofs.Common.{true, false, inr, refl}
use Rattle.cron_tab_running.proofs.run_clock.RunClock.glance.Goals as goal

pub returns-then-have_changed : goal.returns-then-have_changed
returns-then-have_changed g c = (refl, refl, refl, inr (c.in-Ok.now, true, c.in-Ok.ensures, c.if-have_changed.ensures, refl, refl))

pub returns : goal.returns
returns g c = (refl, refl, refl, inr (c.in-Ok.now, false, c.in-Ok.ensures, c.if-have_changed.ensures, c.later-self.ensures, refl))
