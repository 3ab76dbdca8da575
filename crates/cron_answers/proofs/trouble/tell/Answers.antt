use Rattle.std.proofs.Common.{◌≡◌, ℕ, List, [], Option, ◌∙◌, inl, inr}
use Rattle.cron_walk_listing.specs.Output.{complaint}
use Rattle.cron_writer.proofs.Sending.{nothing_sent}
use Rattle.cron_replies.specs.Statuses.{Ends}
use Rattle.cron_answers.specs.Troubles.{trouble_text}
use Rattle.cron_replies.specs.declared.status.Status.{Status}
use Rattle.cron_answers.proofs.trouble.tell.Goals as goal

ends_as : (done wanted : Status) (text line : List ℕ) (old new : Option (List ℕ)) (status : Status) → done ≡ wanted → text ≡ line
    → Ends done text old new status → Ends wanted line old new status
ends_as done wanted text line old new status d t h = rw (← d, ← t) h

pub returns-in-Ok-clause-told : goal.returns-in-Ok-clause-told
returns-in-Ok-clause-told g c =
    let line : c.as_bytes.result.now ≡ complaint (trouble_text c.args.trouble.now) = c.as_bytes.ensures.value ∙ c.in-Ok.ensures.ok in
    let ends = c.finish.ensures.ends _ _ (c.send.ensures.sent _ [] (nothing_sent _ _)) in
    inl (ends_as c.status.result _ c.as_bytes.result.now _ _ _ _ c.status.ensures line ends)

pub returns-in-Err-clause-told : goal.returns-in-Err-clause-told
returns-in-Err-clause-told g c = inr (c.finish-in-Err.ensures.ends _ _ (c.send-in-Err.ensures.sent _ [] (nothing_sent _ _)))
