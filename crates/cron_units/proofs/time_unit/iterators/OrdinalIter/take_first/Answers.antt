use Rattle.cron_units.proofs.Remaining.{left_within, listed_first, listed_none}
use Rattle.cron_units.proofs.time_unit.iterators.OrdinalIter.take_first.Goals as goal

pub invariant_of-self : goal.invariant_of-self
invariant_of-self c =
    (c.without-self-inside.ensures.fit, left_within c.self.inside.least _ _ c.in_ok-place.place c.self.invariant.1 c.without-self-inside.ensures.bits)

pub returns-in_err-place : goal.returns-in_err-place
returns-in_err-place c =
    let none = listed_none c.self.inside.least 192 _ c.args.self.now c.self.view_is c.in_err-place.ensures in
    rw c.from_residual.ensures (none, none)

pub returns : goal.returns
returns c =
    listed_first c.self.inside.least 192 _ _ c.args.self.now c.in_ok-place.place c.self.view_is c.in_ok-place.ensures.0 c.in_ok-place.ensures.1
    c.in_ok-place.ensures.2 c.without-self-inside.ensures.bits
