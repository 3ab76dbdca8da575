use Rattle.std.proofs.Common.{[]}
use Rattle.cron_writer.proofs.Sending.{nothing_sent}
use Rattle.cron_replies.proofs.sending.send_bytes.Goals as goal

pub returns-clause-ends : goal.returns-clause-ends
returns-clause-ends g c = c.finish.ensures.ends _ _ (c.send.ensures.sent _ [] (nothing_sent _ _))
