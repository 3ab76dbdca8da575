use Rattle.std.proofs.Common.{◌≡◌, ◌++◌, ℕ, Bool, true, Option, List, [], ◌∷◌, length, refl, sym, ◌∙◌, subst, append_assoc, append-nil}
use Rattle.cron_writer.specs.Calls.{AreWrites}
use Rattle.cron_writer.specs.Watching.{has_failed, writer_of, IsGathered}
use Rattle.cron_writer.proofs.Calling.{handed_on, writes_on}
use Rattle.cron_writer.proofs.Gathering.{nothing_gathered}
use Rattle.cron_writer.proofs.Sending.{both_ways}
use Rattle.cron_checking.specs.Checks.{Ends, closing_line, last_line}
use Rattle.cron_checking.specs.Inner.{stop_line}
use Rattle.cron_checking.specs.declared.check.Outcome.{Outcome}
use Rattle.cron_checking.specs.declared.check.Outcome.TheVariants.{AllRead, SomeRefused, OutOfMemory, WriteFailed, Unreadable, NotUtf8}
use Rattle.cron_checking.proofs.check.check.Goals as goal

-- the last line is what was put of a line at which the check ended, or the closing line
last_is : (front : List ℕ) (end : Outcome) (count : ℕ) → stop_line front end count ++ closing_line end ≡ last_line front end count
last_is front AllRead count = refl
last_is front SomeRefused count = refl
last_is front OutOfMemory count = refl
last_is front WriteFailed count = refl
last_is front Unreadable count = refl
last_is front NotUtf8 count = append-nil (last_line front NotUtf8 count)

-- so the whole of it ends in the last line
written : (front : List ℕ) (end outcome : Outcome) (count : ℕ) (report : List ℕ) (old new : Option (List ℕ))
    → Ends end (report ++ (stop_line front end count ++ closing_line end)) old new outcome → Ends end (report ++ last_line front end count) old new outcome
written front end outcome count report old new h = subst (λ (t : List ℕ). Ends end (report ++ t) old new outcome) (last_is front end count) h

-- once a call has failed the mark stays
stays_failed : {W : Type 0} (writes : W → List ℕ → _ → W → Type 0) (old new : W) (was failed : Bool) → AreWrites writes old was new failed
    → was ≡ true → failed ≡ true
stays_failed writes old new was failed ([], h) e = h.1 ∙ e
stays_failed writes old new was failed (c ∷ cs, h) e = absurd (both_ways was e h.0)

-- the closing line comes after what was put of the last one
closed : (old new : Option (List ℕ)) (failed : Bool) (kept report stop closing shown : List ℕ) → shown ≡ closing
    → IsGathered old new failed kept ((report ++ stop) ++ shown) → IsGathered old new failed kept (report ++ (stop ++ closing))
closed old new failed kept report stop closing shown e h =
    subst (IsGathered old new failed kept) (append_assoc report stop closing)
    (subst (λ (t : List ℕ). IsGathered old new failed kept ((report ++ stop) ++ t)) e h)

pub finish-requires : goal.finish-requires
finish-requires g c =
    λ is_failure. stays_failed _ _ _ _ _ (handed_on _ _ _ _ _ _ c.send.ensures.calls)
    (stays_failed _ _ _ _ _ c.put.ensures.calls (c.tell_lines-end.ensures.tells.failed is_failure))

pub returns-clause-calls : goal.returns-clause-calls
returns-clause-calls g c = (
  _,
  _,
  writes_on _ _ _ _ _ _ _ (writes_on _ _ _ _ _ _ _ c.tell_lines-end.ensures.tells.puts.calls c.put.ensures.calls) (handed_on _ _ _ _ _ _ c.send.ensures.calls),
  c.finish.ensures.calls,
)

pub returns-clause-checks : goal.returns-clause-checks
returns-clause-checks g c =
    let told = c.tell_lines-end.ensures.tells in
    let begun =
    subst (λ (kept : List ℕ). IsGathered (g.W.Write.contents (writer_of c.args.out.now)) (g.W.Write.contents (writer_of c.args.out.now))
    (has_failed c.args.out.now) kept [])
    (sym c.new-gathered.ensures) (nothing_gathered _ _) in
    let end = c.tell_lines-end.result in
    record {
      checked = told.checked;
      front = told.front;
      piece = told.piece;
      report = told.report;
      refused = told.refused;
      end = end;
      read = told.read;
      one_line = told.one_line;
      ends = told.ends;
      tells = told.tells;
      writes =
          written _ end _ (length told.checked) told.report _ _
          (c.finish.ensures.ends _ _
          (c.send.ensures.sent _ _
          (closed _ _ _ _ told.report (stop_line _ end (length told.checked)) (closing_line end) c.as_bytes.result.now
          (c.as_bytes.ensures.value ∙ c.closing_line.ensures)
          (c.put.ensures.gathers _ _ (told.puts.gathers _ [] begun)))));
    }
