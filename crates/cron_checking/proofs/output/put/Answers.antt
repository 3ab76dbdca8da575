use Rattle.std.proofs.Common.{◌≡◌, ℕ, Bool, List, [], Option, sym, append-nil}
use Rattle.cron_writer.specs.Watching.{IsSent, IsGathered}
use Rattle.cron_writer.proofs.Calling.{handed_on, writes_on}
use Rattle.cron_checking.proofs.output.put.Goals as goal

-- nothing is kept of what was sent
sent_is_gathered : (old new : Option (List ℕ)) (failed : Bool) (kept text : List ℕ) → kept ≡ [] → IsSent old new failed text
    → IsGathered old new failed kept text
sent_is_gathered old new failed kept text none s =
    record {
      front = s.front;
      rest = λ fresh. record { sent = text; cut = rw none (sym (append-nil text)); appended = s.whole fresh };
    }

pub returns : goal.returns
returns g c =
    record {
      gathers = λ origin before was.
          sent_is_gathered _ _ _ _ _ c.send.ensures.empty (c.send-2.ensures.sent origin before (c.send.ensures.sent origin before was));
      calls = writes_on _ _ _ _ _ _ _ (handed_on _ _ _ _ _ _ c.send.ensures.calls) (handed_on _ _ _ _ _ _ c.send-2.ensures.calls);
    }
