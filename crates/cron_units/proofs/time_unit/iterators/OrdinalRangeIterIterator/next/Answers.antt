use Rattle.std.proofs.Common.{rules}
use Rattle.cron_units.proofs.time_unit.iterators.OrdinalRangeIterIterator.next.Goals as goal

pub returns-clause-steps : goal.returns-clause-steps
returns-clause-steps c = search rules
