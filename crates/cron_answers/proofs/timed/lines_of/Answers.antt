use Rattle.std.proofs.Common.{◌∷◌, ◌++◌, [], refl, sym, ◌∙◌, subst}
use Rattle.std.proofs.lemmas.Result.{err_from_is_err_and}
use Rattle.cron_answers.specs.Fires.{first_of, one_less}
use Rattle.cron_answers.specs.TimedLines.{AreLines}
use Rattle.cron_answers.proofs.TimedLemmas.{all_left, all_wanted, failed_on, line_on, take_on}
use Rattle.cron_answers.proofs.timed.lines_of.Goals as goal

pub fires-init : goal.fires-init
fires-init g c = ([], refl, c.new-lines.ensures.items)

pub fires-preserved : goal.fires-preserved
fires-preserved g c =
    let (taken, split, lines) = c.fires.invariant in
    let wanted = sym c.is_none_wanted.ensures ∙ c.fires-test.true in
    let (line, more, is_line) = c.in_ok-push_line.ensures.ok in (
      taken ++ c.in-Some.fire ∷ [],
      rw c.one_less-more.ensures (take_on _ taken c.fires.more (g.L.Left.left c.fires.left) (g.L.Left.left c.take_first.new.self) c.in-Some.fire split wanted c.in-Some.ensures),
      rw more (line_on c.args.times.now g.F.Told.text g.F.Told.shown taken c.in-Some.fire c.fires.lines.items line lines is_line),
    )

pub returns-in_default-clause-ok : goal.returns-in_default-clause-ok
returns-in_default-clause-ok g c =
    let (taken, split, lines) = c.fires.invariant in
    subst (λ all. AreLines c.args.times.now g.F.Told.text g.F.Told.shown all c.fires.lines.items)
    (all_left _ taken c.fires.more (g.L.Left.left c.fires.left) split c.in_default.ensures.0) lines

pub returns-in_err-push_line-clause-err : goal.returns-in_err-push_line-clause-err
returns-in_err-push_line-clause-err g c =
    let (taken, split, lines) = c.fires.invariant in
    let wanted = sym c.is_none_wanted.ensures ∙ c.fires-test.true in
    let more = take_on _ taken c.fires.more (g.L.Left.left c.fires.left) (g.L.Left.left c.take_first.new.self) c.in-Some.fire split wanted c.in-Some.ensures in
    let (why, is, same) = err_from_is_err_and c.from_residual.result c.from_residual.ensures.1 in
    rw (is, same)
    (failed_on c.args.times.now g.F.Told.shown _ taken (first_of (one_less c.fires.more) (g.L.Left.left c.take_first.new.self)) c.in-Some.fire
    c.in_err-push_line.field-0.0 more c.in_err-push_line.ensures.err)

pub returns-clause-ok : goal.returns-clause-ok
returns-clause-ok g c =
    let (taken, split, lines) = c.fires.invariant in
    subst (λ all. AreLines c.args.times.now g.F.Told.text g.F.Told.shown all c.fires.lines.items)
    (all_wanted _ taken c.fires.more (g.L.Left.left c.fires.left) split (sym c.is_none_wanted.ensures ∙ c.fires-test.false)) lines
