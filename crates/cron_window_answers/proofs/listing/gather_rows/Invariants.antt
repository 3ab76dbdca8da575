use Rattle.std.proofs.Common.{◌≡◌, List, ℕ, ◌++◌, false, length}
use Rattle.jiff.specs.Words.{plain_zone}
use Rattle.cron_stretches.specs.Fires.{second_of}
use Rattle.cron_windows.specs.Windows.{is_open, windows_between}
use Rattle.cron_writer.specs.Calls.{AreWrites}
use Rattle.cron_writer.specs.Watching.{has_failed, kept_in, writer_of, IsGathered}
use Rattle.cron_window_answers.specs.Rows.{rows}
use Rattle.cron_window_answers.proofs.RowLemmas.{AreInstants}
use Rattle.cron_window_answers.proofs.listing.gather_rows.Given as goal

-- the rows of the windows so far were gathered, and those of the others are left
abbrev pub invariant-windows : goal.invariant-windows
invariant-windows g l =
    (so_far : List ℕ)
    × (rows l.form (plain_zone l.zone) (windows_between (is_open l.windows) (second_of l.fn.from.nanosecond) (second_of l.fn.to.nanosecond))
    ≡ so_far ++ rows l.form (plain_zone l.zone) l.left)
    × AreInstants l.left
    × IsGathered (g.W.Write.contents (writer_of l.initial.out)) (g.W.Write.contents (writer_of l.out)) (has_failed l.out) (kept_in l.lines) so_far
    × AreWrites g.W.Watchable.writes (writer_of l.initial.out) (has_failed l.initial.out) (writer_of l.out) (has_failed l.out)
    × (has_failed l.out ≡ false)

abbrev pub decreases-windows : goal.decreases-windows
decreases-windows g l = length l.left
