use Rattle.std.proofs.Common.{[], sym, subst}
use Rattle.cron_writer.proofs.Sending.{nothing_sent}
use Rattle.cron_writer.specs.Watching.{has_failed, writer_of}
use Rattle.cron_ics.specs.Pages.{IsPage}
use Rattle.cron_ics.proofs.pages.write_spans.Goals as goal

pub returns-clause-writes : goal.returns-clause-writes
returns-clause-writes g c = (
  c.as_slice.result.now,
  subst (IsPage c.args.series.now c.args.spans.now) (sym c.as_slice.ensures.value) c.in-Ok.ensures,
  c.flush.ensures.bytes _ _ (c.send.ensures.sent _ [] (nothing_sent _ _)),
  (writer_of c.send.new.out, has_failed c.send.new.out, c.send.ensures.calls, c.flush.ensures.calls),
)
