use Rattle.std.proofs.Common.{inl, inr, refl}
use Rattle.cron_tab_running.proofs.looks.idle.Goals as goal

pub returns-in-Err : goal.returns-in-Err
returns-in-Err g c = (c.minute_behind.result, c.minute_behind.ensures, inl (c.in-Err.error, c.in-Err.ensures, refl, refl))

pub returns : goal.returns
returns g c = (c.minute_behind.result, c.minute_behind.ensures, inr (c.sleep_until.new.self, c.in_default.ensures, c.glance.ensures))
