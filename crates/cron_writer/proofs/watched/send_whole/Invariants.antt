use Rattle.std.proofs.Common.{◌≡◌, false, List, ℕ, ◌++◌, length}
use Rattle.std.specs.Io.KnownBytes.{Appends}
use Rattle.cron_writer.specs.Calls.{AreTried}
use Rattle.cron_writer.specs.Watching.{has_failed, writer_of}
use Rattle.cron_writer.proofs.watched.send_whole.Given as goal

-- a beginning of the text was sent, by writes of all that was left, and the rest is left
abbrev pub invariant-loop-rest : goal.invariant-loop-rest
invariant-loop-rest g l =
    (sent : List ℕ) × (l.initial.rest ≡ sent ++ l.rest) × Appends (g.W.Write.contents (writer_of l.initial.out)) (g.W.Write.contents (writer_of l.out))
    sent × (has_failed l.out ≡ false)
    × AreTried g.W.Watchable.writes (writer_of l.initial.out) (has_failed l.initial.out) (writer_of l.out) (has_failed l.out) l.initial.rest l.rest

abbrev pub decreases-loop-rest : goal.decreases-loop-rest
decreases-loop-rest g l = length l.rest
