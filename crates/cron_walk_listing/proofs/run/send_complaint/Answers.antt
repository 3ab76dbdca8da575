use Rattle.std.proofs.Common.{◌≡◌, Bool, Option, [], List, ℕ, subst, ◌∙◌}
use Rattle.cron_walk_listing.specs.Output.{complaint}
use Rattle.cron_writer.specs.Watching.{IsSent}
use Rattle.cron_writer.proofs.Calling.{handed_on, writes_on}
use Rattle.cron_writer.proofs.Sending.{nothing_sent}
use Rattle.cron_walk_listing.proofs.run.send_complaint.Goals as goal

same_complaint : (old new : Option (List ℕ)) (failed : Bool) (told same : List ℕ) → told ≡ same → IsSent old new failed (complaint told)
    → IsSent old new failed (complaint same)
same_complaint old new failed told same e s = subst (λ (t : List ℕ). IsSent old new failed (complaint t)) e s

pub returns-clause-sent : goal.returns-clause-sent
returns-clause-sent g c =
    same_complaint _ _ _ c.as_bytes.result.now _ (c.as_bytes.ensures.value ∙ c.message_of.ensures)
    (c.send-3.ensures.sent _ _ (c.send-2.ensures.sent _ _ (c.send.ensures.sent _ [] (nothing_sent _ _))))

pub returns-clause-calls : goal.returns-clause-calls
returns-clause-calls g c =
    let head = handed_on _ _ _ _ _ _ c.send.ensures.calls in
    let told = handed_on _ _ _ _ _ _ c.send-2.ensures.calls in
    let end = handed_on _ _ _ _ _ _ c.send-3.ensures.calls in
    writes_on _ _ _ _ _ _ _ (writes_on _ _ _ _ _ _ _ head told) end
