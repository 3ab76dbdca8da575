-- the years so far
use Rattle.std.proofs.Common.{◌≡◌, []}
use Rattle.std.specs.List.{list_any}
use Rattle.cron_units.specs.Units.{contains, set_of}
use Rattle.cron_units.specs.Units as units
use Rattle.cron_quartz.proofs.SetLemmas.{below}
use Rattle.cron_words.proofs.shapes.years_of_any.Given as goal

abbrev pub invariant-loop-year : goal.invariant-loop-year
invariant-loop-year l = l.kept ≡ set_of units.years (below (λ x. list_any (λ s. contains s.years x) l.schedules) [] l.year)
