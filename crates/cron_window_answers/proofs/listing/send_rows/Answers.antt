use Rattle.cron_writer.proofs.Calling.{handed_on, writes_on}
use Rattle.cron_window_answers.proofs.listing.send_rows.Goals as goal

pub returns-clause-calls : goal.returns-clause-calls
returns-clause-calls g c = writes_on _ _ _ _ _ _ _ c.gather_rows.ensures.calls (handed_on _ _ _ _ _ _ c.send.ensures.calls)
