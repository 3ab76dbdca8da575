use Rattle.std.proofs.Common.{◌≡◌, ℕ, false, List, Option, ◌∙◌, ap, inr, refl, rules}
use Rattle.std.specs.Io.KnownBytes.{Appends}
use Rattle.cron_walk_listing.specs.Output.{Ends, lines_of, is_write_failure}
use Rattle.cron_walk_listing.specs.Pages.{item_or}
use Rattle.cron_walk_listing.specs.declared.run.Outcome.{Outcome}
use Rattle.cron_walk_listing.specs.declared.run.Outcome.TheVariants.{Listed, Refused, WriteFailed}
use Rattle.cron_walk_listing.proofs.page.page.Goals as goal

went_out : (text : List ℕ) (old new : Option (List ℕ)) (o : Outcome) → (o ≡ WriteFailed → ⊥) → Ends Listed text old new o
    → (is_write_failure o ≡ false) × Appends old new text
went_out text old new Listed n e = (refl, e.1)
went_out text old new Refused n e = (refl, e.1)
went_out text old new WriteFailed n e = absurd (n refl)

pub returns-in_default-finish : goal.returns-in_default-finish
returns-in_default-finish g c =
    let lines = lines_of c.args.back c.in-Some.walk c.args.size in
    let (went, appended) = went_out lines _ _ c.finish.result c.in_default-finish.not-WriteFailed (c.finish.ensures.ends _ lines c.send_items.ensures.lines) in
    let last = c.item_or-listed.ensures ∙ ap (item_or c.args.last.now) (c.send_items.ensures.last (c.finish.ensures.whole went)) in
    record {
      writes = inr (c.in-Some.walk, c.in-Some.ensures, (last, appended));
      mark = c.finish.ensures.mark ∙ went;
      untouched = λ listed. absurd (cc);
      calls = λ item. (_, _, c.send_items.ensures.calls, c.finish.ensures.calls);
      gathers = λ item. (_, c.send_items.ensures.gathers, c.finish.ensures.calls);
    }

pub returns-in-WriteFailed-clause-writes : goal.returns-in-WriteFailed-clause-writes
returns-in-WriteFailed-clause-writes g c =
    let lines = lines_of c.args.back c.in-Some.walk c.args.size in
    inr (c.in-Some.walk, c.in-Some.ensures, c.in-WriteFailed.ensures.ends _ lines c.send_items.ensures.lines)

pub returns-in_default-clause-writes : goal.returns-in_default-clause-writes
returns-in_default-clause-writes c = search rules

pub returns-in_default-clause-mark : goal.returns-in_default-clause-mark
returns-in_default-clause-mark c = search rules

pub returns-in_default-clause-untouched : goal.returns-in_default-clause-untouched
returns-in_default-clause-untouched c = search rules

pub returns-in-WriteFailed-clause-mark : goal.returns-in-WriteFailed-clause-mark
returns-in-WriteFailed-clause-mark c = search rules

pub returns-in-WriteFailed-clause-untouched : goal.returns-in-WriteFailed-clause-untouched
returns-in-WriteFailed-clause-untouched c = search rules

pub returns-in-WriteFailed-clause-calls : goal.returns-in-WriteFailed-clause-calls
returns-in-WriteFailed-clause-calls g c item = (_, _, c.send_items.ensures.calls, c.in-WriteFailed.ensures.calls)

pub returns-in-WriteFailed-clause-gathers : goal.returns-in-WriteFailed-clause-gathers
returns-in-WriteFailed-clause-gathers g c item = (_, c.send_items.ensures.gathers, c.in-WriteFailed.ensures.calls)
