use Rattle.std.proofs.Common.{◌≡◌, [], inl, inr, ◌∙◌}
use Rattle.cron_writer.proofs.Sending.{nothing_sent}
use Rattle.cron_answers.specs.Notices.{notice_line}
use Rattle.cron_answers.proofs.notice.say.Goals as goal

pub returns-in-Ok-clause-said : goal.returns-in-Ok-clause-said
returns-in-Ok-clause-said g c =
    let line : c.as_bytes.result.now ≡ notice_line c.args.notice c.args.word.now =
    c.as_bytes.ensures.value ∙ (rw (c.front_of-front.ensures, c.back_of-back.ensures) at c.in-Ok.ensures.ok) in
    let ends = c.finish.ensures.ends _ _ (c.send.ensures.sent _ [] (nothing_sent _ _)) in
    inl (rw (← line, ← c.status_of.ensures) ends)

pub returns-in-Err-clause-said : goal.returns-in-Err-clause-said
returns-in-Err-clause-said g c = inr (c.finish-in-Err.ensures.ends _ _ (c.send-in-Err.ensures.sent _ [] (nothing_sent _ _)))
