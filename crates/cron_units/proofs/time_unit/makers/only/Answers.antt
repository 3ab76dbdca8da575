use Rattle.cron_units.proofs.Progressions.{only_one}
use Rattle.cron_units.proofs.time_unit.makers.only.Goals as goal

pub returns-clause-members : goal.returns-clause-members
returns-clause-members g c =
    only_one g.T.TimeUnitField.unit (g.T.TimeUnitField.members c.empty-set.result) (g.T.TimeUnitField.members c.insert.new.self) c.args.ordinal
    c.empty-set.ensures.members c.requires.low c.requires.high c.insert.ensures.members
