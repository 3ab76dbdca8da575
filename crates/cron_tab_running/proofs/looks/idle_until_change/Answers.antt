use Rattle.std.proofs.Common.{◌∙◌, refl, subst}
use Rattle.std.specs.Prelude.{Ok, Err}
use Rattle.cron_printing.specs.Printing.{PrintsText, writer_calls}
use Rattle.cron_printing.specs.declared.printer.WriteFailed.{WriteFailed}
use Rattle.cron_tab_running.proofs.looks.idle_until_change.Goals as goal

pub returns-in-Ok : goal.returns-in-Ok
returns-in-Ok g c = (
  Ok tt,
  subst (λ t. PrintsText {E = WriteFailed} (writer_calls g.W.Watchable.writes g.W.Watchable.flushes g.W.Write.contents) c.args.complaints.now t (Ok tt) c.print.new.self)
      (c.as_bytes.ensures.value ∙ c.idle_text.ensures) c.in-Ok.ensures,
  c.wait_for_change.ensures,
)

pub returns-in-Err : goal.returns-in-Err
returns-in-Err g c = (
  Err c.in-Err.field-0,
  subst (λ t. PrintsText {E = WriteFailed} (writer_calls g.W.Watchable.writes g.W.Watchable.flushes g.W.Write.contents) c.args.complaints.now t (Err c.in-Err.field-0) c.print.new.self)
      (c.as_bytes.ensures.value ∙ c.idle_text.ensures) c.in-Err.ensures,
  (refl, refl),
)
