use Rattle.std.proofs.Common.{List, ℕ, inl, inr, refl, ap, rules}
use Rattle.cron_units.specs.Texts.{TellsKind, kind_text, error_text}
use Rattle.cron_units.specs.declared.error.ErrorKind.{ErrorKind}
use Rattle.cron_units.specs.declared.error.ErrorKind.TheVariants.{Expression, OutOfMemory}
use Rattle.cron_time.specs.Walk.Cursor.{Walk}
use Rattle.cron_text.specs.Fault.{IsRefusal}
use Rattle.cron_walk_listing.specs.Output.{IsTold, complaint, lines_of}
use Rattle.cron.proofs.Callers.{walk_is}
use Rattle.cron_walk_listing.proofs.run.run.Goals as goal

kind_told : (expression : List ℕ) (k : ErrorKind) → TellsKind (IsRefusal expression) k → IsTold expression (kind_text k)
kind_told expression (Expression text) h = inl h
kind_told expression OutOfMemory h = inr refl

pub returns-in-Ok-clause-writes : goal.returns-in-Ok-clause-writes
returns-in-Ok-clause-writes g c =
    let lines = lines_of c.args.back c.after.result c.args.count in
    let same = ap (λ (w : Walk). lines_of c.args.back w c.args.count)
    (walk_is c.after.result _ c.after.ensures.sets c.after.ensures.zone c.after.ensures.cursor) in
    inl (lines, (c.in-Ok.schedule.sets, c.in-Ok.ensures.means, same), c.finish.ensures.ends _ lines c.send_items-last.ensures.lines)

pub returns-in-Err-clause-writes : goal.returns-in-Err-clause-writes
returns-in-Err-clause-writes g c =
    inr (
      complaint (error_text c.in-Err.error),
      (
        error_text c.in-Err.error,
        kind_told c.args.expression.now c.in-Err.error.kind c.in-Err.ensures.refused,
        refl,
      ),
      c.finish-in-Err.ensures.ends _ _ c.send_complaint.ensures.sent,
    )

pub returns-in-Ok-clause-mark : goal.returns-in-Ok-clause-mark
returns-in-Ok-clause-mark c = search rules

pub returns-in-Err-clause-mark : goal.returns-in-Err-clause-mark
returns-in-Err-clause-mark c = search rules

pub returns-in-Ok-clause-calls : goal.returns-in-Ok-clause-calls
returns-in-Ok-clause-calls g c = (_, _, c.send_items-last.ensures.calls, c.finish.ensures.calls)

pub returns-in-Err-clause-calls : goal.returns-in-Err-clause-calls
returns-in-Err-clause-calls g c = (_, _, c.send_complaint.ensures.calls, c.finish-in-Err.ensures.calls)

pub returns-in-Ok-clause-gathers : goal.returns-in-Ok-clause-gathers
returns-in-Ok-clause-gathers g c listed = (_, c.send_items-last.ensures.gathers, c.finish.ensures.calls)
