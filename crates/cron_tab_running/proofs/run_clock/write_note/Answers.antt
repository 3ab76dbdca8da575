use Rattle.std.proofs.Common.{◌∙◌, inl, refl}
use Rattle.cron_tab_running.proofs.run_clock.write_note.Goals as goal

pub returns-in-Ok : goal.returns-in-Ok
returns-in-Ok g c = (refl, inl (rw (c.as_slice.ensures.value ∙ c.in-Ok.ensures) at c.replace.ensures))
