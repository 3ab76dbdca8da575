use Rattle.std.proofs.Common.{◌≡◌, length}
use Rattle.jiff.specs.Words.{plain_zone}
use Rattle.cron_answers.specs.Fires.{first_of}
use Rattle.cron_answers.specs.QuartzNotes.{has_other}
use Rattle.cron_answers.proofs.quartz_note.has_other.Given as goal

-- none of the fires so far is another
abbrev pub invariant-fires : goal.invariant-fires
invariant-fires g l =
    has_other g.F.Told.civil g.F.Told.second (plain_zone l.zone) (first_of l.fn.most (g.L.Left.left l.initial.left))
    ≡ has_other g.F.Told.civil g.F.Told.second (plain_zone l.zone) (first_of l.more (g.L.Left.left l.left))

abbrev pub decreases-fires : goal.decreases-fires
decreases-fires g l = length (g.L.Left.left l.left)
