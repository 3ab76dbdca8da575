use Rattle.std.proofs.Common.{[]}
use Rattle.cron_writer.proofs.Calling.{handed_on, writes_on}
use Rattle.cron_writer.proofs.Sending.{nothing_sent}
use Rattle.cron_answers.proofs.explain.send_between.Goals as goal

pub returns-clause-ends : goal.returns-clause-ends
returns-clause-ends g c =
    let head = c.send.ensures.sent _ [] (nothing_sent _ _) in
    let sent = c.finish.ensures.ends _ _ (c.send-2.ensures.sent _ _ (c.send_more.ensures.sent _ _ head)) in
    rw (c.as_bytes.ensures.value, c.as_bytes-2.ensures.value) at sent

pub returns-clause-calls : goal.returns-clause-calls
returns-clause-calls g c =
    let head = handed_on _ _ _ _ _ _ c.send.ensures.calls in
    let rows = writes_on _ _ _ _ _ _ _ head c.send_more.ensures.calls in
    (_, _, writes_on _ _ _ _ _ _ _ rows (handed_on _ _ _ _ _ _ c.send-2.ensures.calls), c.finish.ensures.calls)
