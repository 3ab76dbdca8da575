use Rattle.std.proofs.Common.{◌∙◌, ap, refl, subst}
use Rattle.std.specs.Prelude.{Ok}
use Rattle.cron_printing.specs.Printing.{PrintsText, writer_calls}
use Rattle.cron_printing.specs.declared.printer.WriteFailed.{WriteFailed}
use Rattle.cron_tab_running.specs.Writing.{text_at}
use Rattle.cron_tab_running.proofs.writer.TabWriterAgendaJob.run.Goals as goal

pub returns : goal.returns
returns g c =
    let between = c.write_front.new.printer in
    let is = c.text_at.ensures ∙ ap (λ ts. text_at ts c.args.due.id) c.as_slice.ensures.value in (
      Ok c.in_ok-write_front.field-0,
      between,
      c.in_ok-write_front.ensures,
      subst (λ t. PrintsText {E = WriteFailed} (writer_calls g.W.Watchable.writes g.W.Watchable.flushes g.W.Write.contents) between t c.print.result c.print.new.self)
          is c.print.ensures,
      refl,
      refl,
      refl,
    )
