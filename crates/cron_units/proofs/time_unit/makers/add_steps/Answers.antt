use Rattle.std.proofs.Common.{rules}
use Rattle.cron_units.proofs.Progressions.{range_steps}
use Rattle.cron_units.proofs.time_unit.makers.add_steps.Goals as goal

pub returns-then-every-eq1-clause-members : goal.returns-then-every-eq1-clause-members
returns-then-every-eq1-clause-members g c =
    range_steps g.T.TimeUnitField.unit (g.T.TimeUnitField.members c.args.set.now) (g.T.TimeUnitField.members c.insert_range.new.self) c.args.first
    c.args.last c.args.every c.if-every-eq1.true c.insert_range.ensures.members

pub returns-else-every-eq1-clause-members : goal.returns-else-every-eq1-clause-members
returns-else-every-eq1-clause-members c = search rules
