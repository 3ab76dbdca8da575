use Rattle.std.proofs.Common.{◌≡◌, ◌-◌, List, [], ℕ, ◌++◌, map, false}
use Rattle.cron_moments.specs.MomentText.{item_line}
use Rattle.cron_moments.specs.Readings.{Reading}
use Rattle.cron_walk_listing.specs.Output.{answers_of, first_there, last_item, lines_of}
use Rattle.cron_writer.specs.Calls.{AreGathered, AreWrites}
use Rattle.cron_writer.specs.Watching.{has_failed, kept_in, writer_of, IsGathered}
use Rattle.cron_walk_listing.proofs.run.gather_items.Given as goal

-- the lines of the answers so far were gathered, those of the others are left, and the last item so far is kept
abbrev pub invariant-loop : goal.invariant-loop
invariant-loop g l =
    (so_far : List ℕ) × (lines_of l.back l.initial.walk l.count ≡ so_far ++ lines_of l.back l.walk (l.count - l.counter))
    × IsGathered (g.W.Write.contents (writer_of l.initial.out)) (g.W.Write.contents (writer_of l.out)) (has_failed l.out) (kept_in l.lines) so_far
    × (last_item (answers_of l.back l.initial.walk l.count) ≡ first_there (last_item (answers_of l.back l.walk (l.count - l.counter))) l.last)
    × AreWrites g.W.Watchable.writes (writer_of l.initial.out) (has_failed l.initial.out) (writer_of l.out) (has_failed l.out)
    × (has_failed l.out ≡ false)
    × ((items : List Reading) × AreGathered g.W.Watchable.writes (map item_line items) l.initial.out l.out [] (kept_in l.lines))
