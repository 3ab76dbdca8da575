use Rattle.std.proofs.Common.{◌∙◌, inl, inr, refl, sym}
use Rattle.cron_tab_running.proofs.run_clock.RunClock.wait.Goals as goal

pub returns-in-Err : goal.returns-in-Err
returns-in-Err g c = inl (c.in-Err.error, c.in-Err.ensures, refl, refl)

pub returns-then-is_due : goal.returns-then-is_due
returns-then-is_due g c = inr (inl (sym c.is_due.ensures ∙ c.if-is_due.true, c.in_default.ensures, refl, refl))

pub returns : goal.returns
returns g c = inr (inr (c.sleep_until.new.self, sym c.is_due.ensures ∙ c.if-is_due.false, c.in_default.ensures, c.glance.ensures))
