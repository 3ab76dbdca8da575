-- the lines so far were read and told
use Rattle.std.proofs.Common.{◌≡◌, ◌+◌, ℕ, List, length}
use Rattle.cron_checking.specs.Puts.{Puts}
use Rattle.cron_checking.specs.Reads.{Read, AreLinesRead}
use Rattle.cron_checking.specs.Reports.{TellsLines}
use Rattle.cron_checking.proofs.Telling.{IsReadSoFar}
use Rattle.cron_checking.proofs.check.tell_lines.Given as goal

abbrev pub invariant-loop-number : goal.invariant-loop-number
invariant-loop-number g l =
    (checked : List (List ℕ)) × (report : List ℕ)
    × IsReadSoFar (g.R.Read.remaining l.initial.reader) (g.R.Read.remaining l.reader) checked
    × TellsLines l.how 1 checked report l.refused
    × (l.number ≡ 1 + length checked)
    × Puts g.W.Write.contents g.W.Watchable.writes l.initial.gathered l.initial.out l.gathered l.out report
    × ((lines : List Read) × AreLinesRead g.R.Readable.reads lines l.initial.reader l.reader)
