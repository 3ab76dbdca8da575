use Rattle.std.proofs.Common.{[], ◌++◌, sym, ap, ◌∙◌, subst}
use Rattle.jiff.specs.Words.{plain_zone}
use Rattle.cron_stretches.specs.Fires.{second_of}
use Rattle.cron_windows.specs.Windows.{is_open}
use Rattle.cron_writer.proofs.Calling.{no_write, writes_on}
use Rattle.cron_writer.proofs.Gathering.{gathered_part, nothing_gathered}
use Rattle.cron_window_answers.specs.Rows.{rows}
use Rattle.cron_window_answers.proofs.RowLemmas.{AreInstants, more-instants, one_more, windows-instants}
use Rattle.cron_window_answers.proofs.StateLemmas.{instant-second}
use Rattle.cron_window_answers.proofs.listing.gather_rows.Goals as goal

pub windows-init : goal.windows-init
windows-init g c =
    let is = sym c.open_between-left.ensures in
    let near = windows-instants (is_open c.args.windows.now) (second_of c.args.from.nanosecond) (second_of c.args.to.nanosecond)
    (instant-second c.args.from.nanosecond c.args.from.in_range) (instant-second c.args.to.nanosecond c.args.to.in_range) in (
      [],
      ap (rows c.args.form (plain_zone c.args.zone.now)) is,
      subst AreInstants is near,
      rw c.requires.nothing (nothing_gathered _ _),
      no_write _ _ _,
      c.requires.fresh,
    )

pub windows-preserved : goal.windows-preserved
windows-preserved g c =
    let (so_far, split, near, was, made, fresh) = c.windows.invariant in
    let line = c.as_slice.ensures.value ∙ c.row_of.ensures in (
      so_far ++ c.as_slice.result.now,
      one_more c.args.form (plain_zone c.args.zone.now) _ so_far c.as_slice.result.now c.windows.left c.next.new.self c.in-Some.window split c.in-Some.ensures.steps line,
      (more-instants c.windows.left c.next.new.self c.in-Some.window c.in-Some.ensures.steps near).2,
      c.push_line.ensures.gathered _ so_far was,
      writes_on _ _ _ _ _ _ _ made c.push_line.ensures.calls,
      sym c.has_failed.ensures ∙ c.if-has_failed.false,
    )

pub returns-then-has_failed-clause-rows : goal.returns-then-has_failed-clause-rows
returns-then-has_failed-clause-rows g c =
    let (so_far, split, near, was, made, fresh) = c.windows.invariant in
    let line = c.as_slice.ensures.value ∙ c.row_of.ensures in
    gathered_part _ _ _ _ _ (so_far ++ c.as_slice.result.now) _
    (one_more c.args.form (plain_zone c.args.zone.now) _ so_far c.as_slice.result.now c.windows.left c.next.new.self c.in-Some.window split c.in-Some.ensures.steps line)
    (sym c.has_failed.ensures ∙ c.if-has_failed.true) (c.push_line.ensures.gathered _ so_far was)

pub returns-then-has_failed-clause-calls : goal.returns-then-has_failed-clause-calls
returns-then-has_failed-clause-calls g c =
    let (so_far, split, near, was, made, fresh) = c.windows.invariant in writes_on _ _ _ _ _ _ _ made c.push_line.ensures.calls
