use Rattle.std.proofs.Common.{◌≡◌, ◌&&◌, []}
use Rattle.cron_units.specs.Units.{contains, set_of}
use Rattle.cron_units.specs.Units as units
use Rattle.cron_quartz.specs.Days.{has_length}
use Rattle.cron_quartz.proofs.SetLemmas.{below}
use Rattle.cron_quartz.proofs.lengths.months_of.Given as goal

abbrev pub invariant-loop-month : goal.invariant-loop-month
invariant-loop-month l = l.kept ≡ set_of units.months (below (λ x. contains l.months x && has_length l.length x) [] l.month)
