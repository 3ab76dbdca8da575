use Rattle.std.proofs.Common.{inr}
use Rattle.cron_tab_running.proofs.run_clock.RunClockAlarmClock.sleep_until.Goals as goal

pub returns-in-Ok : goal.returns-in-Ok
returns-in-Ok g c = inr (c.note_before.new.self, c.in-Ok.ensures, c.wait.ensures)
