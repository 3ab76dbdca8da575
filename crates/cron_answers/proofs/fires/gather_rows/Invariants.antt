use Rattle.std.proofs.Common.{◌≡◌, List, [], ℕ, ◌++◌, false, length}
use Rattle.cron_writer.specs.Calls.{AreWrites}
use Rattle.cron_writer.specs.Watching.{has_failed, kept_in, writer_of, IsGathered}
use Rattle.cron_answers.specs.Fires.{first_of, GathersRows}
use Rattle.cron_answers.specs.Rows.{rows}
use Rattle.cron_answers.proofs.fires.gather_rows.Given as goal

-- the rows of the fires so far were gathered, and those of the others are left
abbrev pub invariant-fires : goal.invariant-fires
invariant-fires g l =
    (so_far : List ℕ)
    × (rows l.form g.F.Told.text g.F.Told.second (first_of l.fn.most (g.L.Left.left l.initial.left))
    ≡ so_far ++ rows l.form g.F.Told.text g.F.Told.second (first_of l.more (g.L.Left.left l.left)))
    × IsGathered (g.W.Write.contents (writer_of l.initial.out)) (g.W.Write.contents (writer_of l.out)) (has_failed l.out) (kept_in l.lines) so_far
    × AreWrites g.W.Watchable.writes (writer_of l.initial.out) (has_failed l.initial.out) (writer_of l.out) (has_failed l.out)
    × (has_failed l.out ≡ false)
    × GathersRows g.W.Watchable.writes l.form g.F.Told.text g.F.Told.second l.initial.out l.out [] (kept_in l.lines)

abbrev pub decreases-fires : goal.decreases-fires
decreases-fires g l = length (g.L.Left.left l.left)
