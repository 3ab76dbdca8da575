use Rattle.std.proofs.Common.{◌∙◌, inl, inr, refl, sym}
use Rattle.cron_tab_running.proofs.run_clock.RunClock.note_before.Goals as goal

pub returns-then-is_settled : goal.returns-then-is_settled
returns-then-is_settled g c = inl (sym c.is_settled.ensures ∙ c.if-is_settled.true, refl, refl)

pub returns-in-Ok : goal.returns-in-Ok
returns-in-Ok g c = inr (sym c.is_settled.ensures ∙ c.if-is_settled.false, c.in-Ok.ensures.0, c.in-Ok.ensures.1, refl)

pub returns-in-Err : goal.returns-in-Err
returns-in-Err g c = inr (sym c.is_settled.ensures ∙ c.if-is_settled.false, c.in-Err.ensures.0, c.in-Err.ensures.1, c.in-Err.ensures.2)
