use Rattle.std.proofs.Common.{◌≡◌, [], ◌++◌, refl, sym, ◌∙◌, subst}
use Rattle.cron_writer.proofs.Calling.{no_write, writes_on}
use Rattle.cron_writer.proofs.Gathering.{gathered_part, nothing_gathered}
use Rattle.cron_writer.specs.Watching.{IsGathered}
use Rattle.cron_answers.proofs.RowLemmas.{none_left, one_gathered, one_more}
use Rattle.cron_answers.proofs.fires.gather_rows.Goals as goal

pub fires-init : goal.fires-init
fires-init g c =
    ([], refl, rw c.requires.nothing (nothing_gathered _ _), no_write _ _ _, c.requires.fresh, ([], (refl, c.requires.nothing)))

pub fires-preserved : goal.fires-preserved
fires-preserved g c =
    let (so_far, split, was, made, fresh, rows) = c.fires.invariant in
    let wanted = sym c.is_none_wanted.ensures ∙ c.fires-test.true in
    let line = c.as_slice.ensures.value ∙ c.row_of.ensures in (
      so_far ++ c.as_slice.result.now,
      rw c.one_less-more.ensures (one_more c.args.form g.F.Told.text g.F.Told.second _ so_far c.as_slice.result.now c.fires.more
          (g.L.Left.left c.fires.left) (g.L.Left.left c.take_first.new.self) c.in-Some.fire split wanted c.in-Some.ensures line),
      c.push_line.ensures.gathered _ so_far was,
      writes_on _ _ _ _ _ _ _ made c.push_line.ensures.calls,
      sym c.has_failed.ensures ∙ c.if-has_failed.false,
      one_gathered _ c.args.form g.F.Told.text g.F.Told.second c.in-Some.fire _ _ _ _ _ c.as_slice.result.now rows fresh line c.push_line.ensures.gathers,
    )

pub returns-in_default-clause-rows : goal.returns-in_default-clause-rows
returns-in_default-clause-rows g c =
    let (so_far, split, was, made, fresh, rows) = c.fires.invariant in
    let none : (g.L.Left.left c.fires.left ≡ []) × (g.L.Left.left c.take_first.new.self ≡ []) = c.in_default.ensures in
    subst (IsGathered _ _ _ _)
    (none_left c.args.form g.F.Told.text g.F.Told.second _ so_far c.fires.more (g.L.Left.left c.fires.left) split none.0) was

pub returns-then-has_failed-clause-rows : goal.returns-then-has_failed-clause-rows
returns-then-has_failed-clause-rows g c =
    let (so_far, split, was, made, fresh, rows) = c.fires.invariant in
    let wanted = sym c.is_none_wanted.ensures ∙ c.fires-test.true in
    let line = c.as_slice.ensures.value ∙ c.row_of.ensures in
    gathered_part _ _ _ _ _ (so_far ++ c.as_slice.result.now) _
    (one_more c.args.form g.F.Told.text g.F.Told.second _ so_far c.as_slice.result.now c.fires.more (g.L.Left.left c.fires.left)
    (g.L.Left.left c.take_first.new.self) c.in-Some.fire split wanted c.in-Some.ensures line)
    (sym c.has_failed.ensures ∙ c.if-has_failed.true) (c.push_line.ensures.gathered _ so_far was)

pub returns-then-has_failed-clause-calls : goal.returns-then-has_failed-clause-calls
returns-then-has_failed-clause-calls g c =
    let (so_far, split, was, made, fresh, rows) = c.fires.invariant in writes_on _ _ _ _ _ _ _ made c.push_line.ensures.calls

pub returns-then-has_failed-clause-gathers : goal.returns-then-has_failed-clause-gathers
returns-then-has_failed-clause-gathers g c =
    let (so_far, split, was, made, fresh, rows) = c.fires.invariant in
    let line = c.as_slice.ensures.value ∙ c.row_of.ensures in
    one_gathered _ c.args.form g.F.Told.text g.F.Told.second c.in-Some.fire _ _ _ _ _ c.as_slice.result.now rows fresh line c.push_line.ensures.gathers
