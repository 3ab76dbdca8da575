use Rattle.std.proofs.Common.{inl, inr, refl}
use Rattle.cron_tab_running.proofs.noted_run.run_noted.Goals as goal

pub returns-in-Ok : goal.returns-in-Ok
returns-in-Ok g c =
    inr (
      (c.run_files.new.clock, c.run_files.new.writer, c.run_files.new.complaints),
      c.note_end.ensures.0,
      c.in-Ok.ensures,
      c.note_end.ensures.1,
      refl,
      c.note_end.ensures.2,
    )

pub returns-in-Err : goal.returns-in-Err
returns-in-Err g c = inl (c.in-Err.failure, c.in-Err.ensures, refl)
