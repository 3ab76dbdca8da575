use Rattle.std.proofs.Common.{◌≡◌, List, ◌++◌, length}
use Rattle.cron_answers.specs.Fires.{first_of}
use Rattle.cron_answers.specs.TimedLines.{AreLines}
use Rattle.cron_answers.proofs.timed.lines_of.Given as goal

-- the lines are those of the fires that were taken
abbrev pub invariant-fires : goal.invariant-fires
invariant-fires g l =
    (taken : List _)
    × (first_of l.fn.most (g.L.Left.left l.initial.left) ≡ taken ++ first_of l.more (g.L.Left.left l.left))
    × AreLines l.times g.F.Told.text g.F.Told.shown taken l.lines.items

abbrev pub decreases-fires : goal.decreases-fires
decreases-fires g l = length (g.L.Left.left l.left)
