use Rattle.std.proofs.Common.{◌∙◌, ap, refl, subst}
use Rattle.std.specs.Prelude.{Ok, Err, map}
use Rattle.cron_printing.specs.Printing.{writer_calls}
use Rattle.cron_tab_running.specs.Writing.{WritesStart}
use Rattle.cron_tab_running.proofs.loop_over.run_loaded.Goals as goal

pub returns-in-Ok : goal.returns-in-Ok
returns-in-Ok g c = record {
  started = Ok tt;
  clock = c.begin.new.self;
  told = c.begin.ensures;
  writer = c.write_start.new.writer;
  texts = ap (λ ts. map (λ t. t.items) ts.items) c.in-Ok.ensures.texts;
  names = c.in-Ok.ensures.names ∙ c.names_fires-writer.ensures;
  starts = subst (λ t. WritesStart (writer_calls g.W.Watchable.writes g.W.Watchable.flushes g.W.Write.contents) c.args.orders.now.reboot t c.args.writer.now.printer (Ok tt) c.write_start.new.writer.printer) c.as_slice.ensures.value c.in-Ok.ensures.starts;
  goes_on = (c.run.new.agenda, c.run.ensures);
}

pub returns : goal.returns
returns g c = record {
  started = Err c.in-Err.error;
  clock = c.begin.new.self;
  told = c.begin.ensures;
  writer = c.write_start.new.writer;
  texts = ap (λ ts. map (λ t. t.items) ts.items) c.in-Err.ensures.texts;
  names = c.in-Err.ensures.names ∙ c.names_fires-writer.ensures;
  starts = subst (λ t. WritesStart (writer_calls g.W.Watchable.writes g.W.Watchable.flushes g.W.Write.contents) c.args.orders.now.reboot t c.args.writer.now.printer (Err c.in-Err.error) c.write_start.new.writer.printer) c.as_slice.ensures.value c.in-Err.ensures.starts;
  goes_on = (refl, refl, refl);
}
