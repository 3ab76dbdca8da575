use Rattle.cron_units.proofs.Remaining.{listed_within}
use Rattle.cron_units.proofs.time_unit.iterators.OrdinalIter.between.Goals as goal

pub returns : goal.returns
returns c =
    listed_within c.self.inside.least 192 c.place_from-from.result c.place_end-end.result c.args.range.0 c.args.range.1 _ _ _ c.args.self c.self.view_is
    c.place_from-from.ensures c.place_end-end.ensures c.at_least.ensures.bits c.below.ensures.bits
