use Rattle.std.proofs.Common.{◌≡◌, Bool, Option, [], List, ℕ, subst}
use Rattle.cron_writer.specs.Watching.{IsSent}
use Rattle.cron_writer.specs.Calls.{HandsOn}
use Rattle.cron_writer.proofs.Sending.{nothing_sent}
use Rattle.cron_walk_listing.proofs.run.refuse.Goals as goal

same_text : (old new : Option (List ℕ)) (failed : Bool) (text same : List ℕ) → text ≡ same → IsSent old new failed text → IsSent old new failed same
same_text old new failed text same e s = subst (λ (t : List ℕ). IsSent old new failed t) e s

pub returns-clause-ends : goal.returns-clause-ends
returns-clause-ends g c =
    c.finish.ensures.ends _ c.args.line.now (same_text _ _ _ c.as_bytes.result.now c.args.line.now c.as_bytes.ensures.value
    (c.send.ensures.sent _ [] (nothing_sent _ _)))

pub returns-clause-calls : goal.returns-clause-calls
returns-clause-calls g c = (_, _, subst (HandsOn _ _ _ _ _) c.as_bytes.ensures.value c.send.ensures.calls, c.finish.ensures.calls)
