use Rattle.std.proofs.Common.{◌≡◌, ◌&&◌, []}
use Rattle.cron_units.specs.Units.{contains, set_of}
use Rattle.cron_units.specs.Units as units
use Rattle.cron_quartz.specs.Days.{year_fits}
use Rattle.cron_quartz.proofs.SetLemmas.{below}
use Rattle.cron_quartz.proofs.lengths.years_of.Given as goal

abbrev pub invariant-loop-year : goal.invariant-loop-year
invariant-loop-year l = l.kept ≡ set_of units.years (below (λ x. contains l.years x && year_fits l.length x) [] l.year)
