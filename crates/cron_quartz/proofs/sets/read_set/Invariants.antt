use Rattle.std.proofs.Common.{◌≡◌, length, false}
use denote.Text.{Utf8}
use denote.Shadow.{shadow}
use Rattle.cron_quartz.specs.Inner.Reading.{AreReadBefore}
use Rattle.cron_quartz.proofs.sets.read_set.Given as goal

abbrev pub invariant-loop-item : goal.invariant-loop-item
invariant-loop-item g l =
    let field = g.T.TimeUnitField in
    AreReadBefore field.unit l.word l.rest (field.members l.set) × (field.marked l.set ≡ false) × shadow (Utf8 l.rest)

abbrev pub decreases-loop-item : goal.decreases-loop-item
decreases-loop-item g l = length l.rest
