use Rattle.std.proofs.Common.{◌-◌, length}
use Rattle.cron_units.specs.Units.{with_mark}
use Rattle.cron_text.specs.Inner.Places.{tokens_from}
use Rattle.cron_text.proofs.PlainItems.{IsListTo}
use Rattle.cron_text.proofs.plain.read_plain.Given as goal

-- the field is read as items up to here
abbrev pub invariant-loop-joined : goal.invariant-loop-joined
invariant-loop-joined g l =
    let field = g.T.TimeUnitField in
    IsListTo field.unit (tokens_from l.text l.fn.place) l.text l.end (with_mark (field.members l.joined) (field.marked l.joined))

abbrev pub decreases-loop-joined : goal.decreases-loop-joined
decreases-loop-joined g l = length l.text - l.end
