use Rattle.cron_writer.proofs.Calling.{handed_on, writes_on}
use Rattle.cron_answers.proofs.fires.send_rows.Goals as goal

pub returns-clause-calls : goal.returns-clause-calls
returns-clause-calls g c = writes_on _ _ _ _ _ _ _ c.gather_rows.ensures.calls (handed_on _ _ _ _ _ _ c.send.ensures.calls)

pub returns-clause-gathers : goal.returns-clause-gathers
returns-clause-gathers g c = let (fires, gathered) = c.gather_rows.ensures.gathers in (fires, (_, _, gathered, c.send.ensures.calls))
