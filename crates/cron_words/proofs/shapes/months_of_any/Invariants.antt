-- the months so far
use Rattle.std.proofs.Common.{◌≡◌, []}
use Rattle.std.specs.List.{list_any}
use Rattle.cron_units.specs.Units.{contains, set_of}
use Rattle.cron_units.specs.Units as units
use Rattle.cron_quartz.proofs.SetLemmas.{below}
use Rattle.cron_words.proofs.shapes.months_of_any.Given as goal

abbrev pub invariant-loop-month : goal.invariant-loop-month
invariant-loop-month l = l.kept ≡ set_of units.months (below (λ x. list_any (λ s. contains s.months x) l.schedules) [] l.month)
