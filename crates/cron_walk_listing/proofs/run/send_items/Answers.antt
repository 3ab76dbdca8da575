use Rattle.std.proofs.Common.{◌≡◌, Bool, true, false, refl, ap, ◌∙◌, rules}
use Rattle.cron_writer.specs.Watching.{has_failed}
use Rattle.cron_writer.proofs.Calling.{handed_on, writes_on}
use Rattle.cron_writer.proofs.Sending.{both_ways}
use Rattle.cron_walk_listing.proofs.run.send_items.Goals as goal

was_fresh : (before after : Bool) → (before ≡ true → after ≡ true) → after ≡ false → before ≡ false
was_fresh true after kept fresh = absurd (both_ways after (kept refl) fresh)
was_fresh false after kept fresh = refl

pub returns-clause-last : goal.returns-clause-last
returns-clause-last g c =
    λ fresh. c.gather_items-last.ensures.last (was_fresh _ _ (λ off. ap has_failed (c.send.ensures.untouched off) ∙ off) fresh)

pub returns-clause-lines : goal.returns-clause-lines
returns-clause-lines c = search rules

pub returns-clause-calls : goal.returns-clause-calls
returns-clause-calls g c = writes_on _ _ _ _ _ _ _ c.gather_items-last.ensures.calls (handed_on _ _ _ _ _ _ c.send.ensures.calls)

pub returns-clause-gathers : goal.returns-clause-gathers
returns-clause-gathers g c =
    let (items, gathered) = c.gather_items-last.ensures.gathers in (items, (_, _, gathered, c.send.ensures.calls))
