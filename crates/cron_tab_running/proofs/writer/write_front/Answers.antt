use Rattle.std.proofs.Common.{◌∙◌, subst}
use Rattle.cron_printing.specs.Printing.{PrintsText, writer_calls}
use Rattle.cron_printing.specs.declared.printer.WriteFailed.{WriteFailed}
use Rattle.cron_tab_running.proofs.writer.write_front.Goals as goal

pub returns-then-names_fires : goal.returns-then-names_fires
returns-then-names_fires g c =
    rw c.if-names_fires.true
    (subst (λ t. PrintsText {E = WriteFailed} (writer_calls g.W.Watchable.writes g.W.Watchable.flushes g.W.Write.contents) c.args.printer.now t c.print.result c.print.new.self)
    (c.as_slice.ensures.value ∙ c.front_of.ensures) c.print.ensures)
