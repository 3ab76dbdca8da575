use Rattle.cron_units.proofs.Progressions.{all_range}
use Rattle.cron_units.proofs.time_unit.makers.whole.Goals as goal

pub returns-clause-members : goal.returns-clause-members
returns-clause-members g c =
    all_range g.T.TimeUnitField.unit (g.T.TimeUnitField.members c.empty-set.result) (g.T.TimeUnitField.members c.insert_range.new.self)
    c.inclusive_min.result c.inclusive_max.result c.empty-set.ensures.members c.inclusive_min.ensures c.inclusive_max.ensures
    c.insert_range.ensures.members
