use Rattle.std.proofs.Common.{refl}
use Rattle.cron_tab_running.proofs.run_clock.RunClock.note.Goals as goal

pub returns-in-Some : goal.returns-in-Some
returns-in-Some g c = (rw c.in-Some.is (c.write_note.new.notebook, refl, c.write_note.ensures), (refl, refl, refl, refl), refl)
