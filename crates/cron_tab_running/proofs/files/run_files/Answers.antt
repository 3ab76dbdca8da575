use Rattle.std.proofs.Common.{◌∙◌, ap, inl, inr, refl, subst}
use Rattle.std.specs.Prelude.{Ok, Err}
use Rattle.cron_printing.specs.Printing.{PrintsText, writer_calls}
use Rattle.cron_printing.specs.declared.printer.WriteFailed.{WriteFailed}
use Rattle.cron_tab_running.specs.Loading.{state_of}
use Rattle.cron_tab_running.proofs.LoadLemmas.{later_ns}
use Rattle.cron_tab_running.proofs.files.run_files.Goals as goal

pub returns-in-Err : goal.returns-in-Err
returns-in-Err g c = inl (inl (c.in-Err.error, c.in-Err.ensures, refl), refl, refl)

pub returns-in-Err-begin : goal.returns-in-Err-begin
returns-in-Err-begin g c =
    let (s, fails) = c.in-Err-begin.ensures.err in
    inl (inr (c.in-Ok.now, c.begin_at.result.nanosecond, s, c.in-Err-begin.why, c.in-Ok.ensures, fails, ap Err c.failure_of.ensures), refl, refl)

pub returns-in-Ok-print : goal.returns-in-Ok-print
returns-in-Ok-print g c = inr (record {
  looked = c.now.new.self;
  begins = record {
    now = c.in-Ok.now;
    looks = c.in-Ok.ensures;
    start = c.begin_at.result;
    is = c.begin_at.ensures;
    until = c.later-until.result;
    is_later = later_ns c.begin_at.result c.args.noted.now.until c.later-until.result c.later-until.ensures;
    state = state_of c.in-Ok-begin.begun.loaded;
    adds = c.in-Ok-begin.ensures.adds;
  };
  told = Ok tt;
  tells = subst (λ t. PrintsText {E = WriteFailed} (writer_calls g.E.Watchable.writes g.E.Watchable.flushes g.E.Write.contents) c.args.complaints.now t (Ok tt) c.print.new.self) (c.as_bytes.ensures.value ∙ c.in-Ok-begin.ensures.told) c.in-Ok-print.ensures;
  ends = (c.run_loaded.result, c.run_loaded.ensures, c.outcome_of.ensures);
})

pub returns-in-Err-print : goal.returns-in-Err-print
returns-in-Err-print g c = inr (record {
  looked = c.now.new.self;
  begins = record {
    now = c.in-Ok.now;
    looks = c.in-Ok.ensures;
    start = c.begin_at.result;
    is = c.begin_at.ensures;
    until = c.later-until.result;
    is_later = later_ns c.begin_at.result c.args.noted.now.until c.later-until.result c.later-until.ensures;
    state = state_of c.in-Ok-begin.begun.loaded;
    adds = c.in-Ok-begin.ensures.adds;
  };
  told = Err c.in-Err-print.field-0;
  tells = subst (λ t. PrintsText {E = WriteFailed} (writer_calls g.E.Watchable.writes g.E.Watchable.flushes g.E.Write.contents) c.args.complaints.now t (Err c.in-Err-print.field-0) c.print.new.self) (c.as_bytes.ensures.value ∙ c.in-Ok-begin.ensures.told) c.in-Err-print.ensures;
  ends = (refl, refl, refl);
})
